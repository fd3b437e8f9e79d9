-- A solve: what its answer says of the clauses taken, and that it leaves a state that says so of them again.
use Rattle.std.specs.Prelude.{◌≡◌, ℕ, length}
use mathlib.Core.List.{List, ◌∷◌}
use Rattle.model.specs.Script.{Config}
use Rattle.model.specs.Search.{Solved}
use Rattle.book.specs.Demand.{FairSolve}
use Rattle.sound.specs.Sound.{Ready}

-- ---- the answer

-- What the cells of a solve say of the clauses taken and the assumptions.
pub record Told (n : ℕ) (taken : List (List ℕ)) (assumptions out : List ℕ) : Type 0 where
  pub answer : ℕ
  pub conflicts : ℕ
  pub body : List ℕ
  pub is : out ≡ answer ∷ conflicts ∷ length body ∷ body
  pub fair : FairSolve n taken assumptions answer body

-- ---- the solve

pub record Solves (cfg : Config) (taken : List (List ℕ)) (assumptions : List ℕ) (r : Solved) : Type 0 where
  pub log : List (List ℕ)
  pub ready : Ready cfg taken log r.solver.state
  pub told : Told cfg.variables taken assumptions r.answer
