-- The state of a search under assumptions, and what a search and a turn of it end with.
use Rattle.std.specs.Prelude.{◌≡◌, true, List, [], ◌++◌, ℕ, ◌<◌, T}
use Rattle.model.specs.Script.{Config}
use Rattle.model.specs.State.{State, Solver, decision_level}
use Rattle.model.specs.Search.{Status, TRUE, FALSE, UNDEF, NO_STORAGE, Searched, Turn, goes_on, ends}
use Rattle.model.specs.Book.{is_common}
use Rattle.lawbase.specs.Sem.{Rup}
use Rattle.lawbase.specs.WellFormed.{WellFormed}
use Rattle.assign.specs.Searching.{Searching}
use Rattle.watching.specs.Watching.{Watching}
use Rattle.watching.specs.Moves.{Returning}
use Rattle.sound.specs.Sound.{Sound}
use Rattle.sound.specs.Answers.{Finals}

-- the state of a search
pub record Solving (cfg : Config) (assumptions : List ℕ) (taken log : List (List ℕ)) (s : State) : Type 0 where
  pub searching : Searching cfg assumptions s
  pub watching : Watching cfg s
  pub sound : Sound cfg.variables taken log s
  pub ok : s.ok ≡ true

-- a stored clause is false at level 0
pub record Refuted (cfg : Config) (taken log : List (List ℕ)) (s : State) : Type 0 where
  pub formed : WellFormed cfg s
  pub level : decision_level s.vars ≡ 0
  pub sound : Sound cfg.variables taken log s
  pub rup : Rup (log ++ taken) []

-- a conflict above level 0 whose clause finds no room
pub record Stopped (cfg : Config) (taken log : List (List ℕ)) (s : State) : Type 0 where
  pub returning : Returning cfg s
  pub deep : 0 < decision_level s.vars
  pub sound : Sound cfg.variables taken log s
  pub ok : s.ok ≡ true

-- what a search ends with; the log may have grown
pub data Verdict (cfg : Config) (assumptions : List ℕ) (taken : List (List ℕ)) : Status → State → Type 0 where
  models : (s : State) (log : List (List ℕ)) → Solving cfg assumptions taken log s → T (is_common cfg.variables taken assumptions s.vars.values)
      → Verdict cfg assumptions taken TRUE s
  refutes : (s : State) (log : List (List ℕ)) → Refuted cfg taken log s → Verdict cfg assumptions taken (FALSE []) s
  fails : (s : State) (log : List (List ℕ)) → Solving cfg assumptions taken log s → (final : List ℕ) → Finals cfg.variables taken log assumptions final
      → Verdict cfg assumptions taken (FALSE final) s
  undecided : (s : State) (log : List (List ℕ)) → Solving cfg assumptions taken log s → Verdict cfg assumptions taken UNDEF s
  no_storage : (s : State) (log : List (List ℕ)) → Stopped cfg taken log s → Verdict cfg assumptions taken NO_STORAGE s

-- what a turn comes to
pub data Turned (cfg : Config) (assumptions : List ℕ) (taken : List (List ℕ)) : Turn → Type 0 where
  onward : (conflicts conflict_c : ℕ) (x : Solver) (log : List (List ℕ)) → Solving cfg assumptions taken log x.state
      → Turned cfg assumptions taken (goes_on conflicts conflict_c x)
  over : (r : Searched) → Verdict cfg assumptions taken r.status r.solver.state → Turned cfg assumptions taken (ends r)
