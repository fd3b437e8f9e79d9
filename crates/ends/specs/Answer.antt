-- The out cells of a solve, and the state that it leaves.
use Rattle.std.specs.Prelude.{◌≡◌, false, List, ℕ, suc}
use Rattle.model.specs.Script.{Config}
use Rattle.model.specs.State.{State, Solver, decision_level}
use Rattle.model.specs.Search.{Searched, most_conflicts, solve_internal}
use Rattle.watching.specs.Watching.{Watching}

-- ---- the state between two records

-- the clauses are known to have no model, or all is at level 0
pub data Idle (cfg : Config) (s : State) : Type 0 where
  closed : s.ok ≡ false → Idle cfg s
  ready : Watching cfg s → decision_level s.vars ≡ 0 → Idle cfg s

-- ---- a solve

-- the search of a solve
abbrev pub found_by : Config → Solver → List ℕ → ℕ → Searched
found_by cfg x ps budget = solve_internal cfg ps budget (suc (most_conflicts cfg)) 0 0 x
