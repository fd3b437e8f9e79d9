-- What a conflict takes one of: room for a clause, or a variable that has no value at level 0. Together with the levels still to be opened, it falls
-- with each turn of a search.
use Rattle.std.specs.Prelude.{List, ℕ, suc, ◌+◌, ◌*◌, ◌-◌, length}
use Rattle.model.specs.Script.{Config}
use Rattle.model.specs.State.{State, decision_level}
use Rattle.model.specs.Search.{most_levels}
use Rattle.assign.specs.Searching.{Searching}
use Rattle.watching.specs.Watching.{Watching}
use Rattle.ends.specs.Fixed.{fixed}

-- between two turns of a search
pub record Ongoing (cfg : Config) (assumptions : List ℕ) (s : State) : Type 0 where
  pub searching : Searching cfg assumptions s
  pub watching : Watching cfg s

-- the conflicts that may still come
unfoldable pub credit : Config → State → ℕ
credit cfg s = (cfg.max_clauses - length s.store.clauses) + (cfg.variables - fixed s.vars)

-- the turns that may still come
unfoldable pub left : Config → List ℕ → State → ℕ
left cfg assumptions s = credit cfg s * suc (most_levels cfg assumptions) + (most_levels cfg assumptions - decision_level s.vars)
