-- The last turn of a search, and what the search has spent by then.
use Rattle.std.specs.Prelude.{◌≡◌, List, ℕ, ◌+◌, ◌-◌, ◌≤◌}
use Rattle.model.specs.Script.{Config}
use Rattle.model.specs.State.{Solver, decision_level}
use Rattle.model.specs.Search.{Searched, ends, most_levels}
use Rattle.ends.specs.Credit.{Ongoing, credit}
use Rattle.ends.specs.Comes.{Comes}

-- Conflicts pass the budget only in a row: each of the row leaves a level, and before it, at a decision, the budget was not reached.
unfoldable pub height : Config → List ℕ → ℕ → ℕ
height cfg assumptions budget = budget + most_levels cfg assumptions - 1

-- in a search that started from x with a conflicts: b conflicts later, at x'
pub record Within (cfg : Config) (assumptions : List ℕ) (budget a : ℕ) (x : Solver) (b : ℕ) (x' : Solver) : Type 0 where
  -- each conflict took some credit
  pub spent : credit cfg x'.state + b ≤ credit cfg x.state
  pub high : a + decision_level x.state.vars ≤ height cfg assumptions budget
      → a + b + decision_level x'.state.vars ≤ height cfg assumptions budget

-- the same, with the conflicts of the solve counted: c
pub record Between (cfg : Config) (assumptions : List ℕ) (budget a : ℕ) (x : Solver) (c b : ℕ) (y : Solver) : Type 0 where
  pub counted : c ≡ a + b
  pub within : Within cfg assumptions budget a x b y

-- the last turn starts from `from`, after `had` conflicts of the search
pub record Last (cfg : Config) (assumptions : List ℕ) (budget nof a : ℕ) (x : Solver) (r : Searched) : Type 0 where
  pub from : Solver
  pub had : ℕ
  pub ongoing : Ongoing cfg assumptions from.state
  pub within : Within cfg assumptions budget a x had from
  pub comes : Comes cfg assumptions budget nof (a + had) had from (ends r)
