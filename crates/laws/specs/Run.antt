-- What an accepted script brings, and the states that a run passes through between two records.
use Rattle.std.specs.Prelude.{ℕ, drop}
use mathlib.Core.List.{List, [], ◌∷◌}
use Rattle.model.specs.Script.{Config, Record, header}
use Rattle.model.specs.State.{Solver, initial}
use Rattle.model.specs.Run.{step, answers}
use Rattle.model.specs.Book.{answer_cells, taken_by}
use Rattle.sound.specs.Sound.{Ready}

-- the solver that records leave
unfoldable pub left_by : Config → List Record → Solver → Solver
left_by cfg [] x = x
left_by cfg (r ∷ rs) x = left_by cfg rs (step cfg r x).solver

-- the clauses taken after records and their answers
unfoldable pub taken_after : List (List ℕ) → List Record → List ℕ → List (List ℕ)
taken_after taken [] out = taken
taken_after taken (r ∷ rs) out = taken_after (taken_by taken r out) rs (drop (answer_cells r out) out)

-- the clauses learnt, with the clauses taken and the state
pub record Between (cfg : Config) (taken : List (List ℕ)) (x : Solver) : Type 0 where
  pub log : List (List ℕ)
  pub ready : Ready cfg taken log x.state

-- at each place of an accepted script
module _ (s : List ℕ) (before : List Record) where
  -- the solver there
  abbrev pub solver_after : Solver
  solver_after = left_by (header s) before (initial (header s).variables)

  -- the clauses taken before it
  abbrev pub taken_before : List (List ℕ)
  taken_before = taken_after [] before (answers (header s) before (initial (header s).variables))
