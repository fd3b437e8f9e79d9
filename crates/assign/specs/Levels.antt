-- How many levels there are: from some number on, each level holds a literal, so the trail bounds them.
use Rattle.std.specs.Prelude.{◌≡◌, ℕ, suc, ◌≤◌, ◌<◌, length, get_or}
use Rattle.model.specs.State.{VarState, decision_level}

-- each level from the a-th on holds a literal: its limit is below the next one, or below the trail's length. The levels in front of it, of
-- assumptions, may be empty.
pub record Levels (a : ℕ) (vs : VarState) : Type 0 where
  pub between : (k : ℕ) → a ≤ k → suc k < decision_level vs → get_or vs.limits k 0 < get_or vs.limits (suc k) 0
  pub last : (k : ℕ) → a ≤ k → suc k ≡ decision_level vs → get_or vs.limits k 0 < length vs.trail
