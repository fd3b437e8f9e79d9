-- The searches of a solve: how many there are, and what holds at the start of each and at the end.
use Rattle.std.specs.Prelude.{◌≡◌, List, ℕ, ◌+◌, ◌*◌, ◌≤◌}
use Rattle.model.specs.Luby.{luby}
use Rattle.model.specs.Script.{Config}
use Rattle.model.specs.State.{Solver, decision_level}
use Rattle.model.specs.Search.{Searched}
use Rattle.ends.specs.Credit.{Ongoing, credit}
use Rattle.ends.specs.Last.{height, Last}
use Rattle.ends.specs.Restart.{Again}

-- the k-th search of a solve starts from x, with a conflicts behind it; the solve started from x₀ with none
pub record Round (cfg : Config) (assumptions : List ℕ) (budget : ℕ) (x₀ : Solver) (k a : ℕ) (x : Solver) : Type 0 where
  pub ongoing : Ongoing cfg assumptions x.state
  pub flat : decision_level x.state.vars ≡ 0
  -- each search before it had a conflict
  pub restarts : k + credit cfg x.state ≤ credit cfg x₀.state
  pub spent : a + credit cfg x.state ≤ credit cfg x₀.state
  pub high : a ≤ height cfg assumptions budget

-- the last search of a solve
pub record Final (cfg : Config) (assumptions : List ℕ) (budget : ℕ) (x₀ : Solver) (r : Searched) : Type 0 where
  pub restarts : ℕ
  pub before : ℕ
  pub from : Solver
  pub round : Round cfg assumptions budget x₀ restarts before from
  pub last : Last cfg assumptions budget (luby restarts * cfg.unit) before from r
  pub over : Again budget r → ⊥
