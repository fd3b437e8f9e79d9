-- The next decision is of an unset variable; where there is none, every variable has a value.
use Rattle.std.specs.Prelude.{ℕ, ◌*◌, ◌<◌}
use Rattle.std.specs.Prelude.{Option, None as none, Some as some}
use Rattle.model.specs.State.{State}
use Rattle.assign.specs.Reading.{Unset}

-- what is picked, if anything
abbrev pub Picked : (ℕ → Type 0) → Option ℕ → Type 0
Picked G none = Unit {0}
Picked G (some b) = G b

-- ---- the decision

-- a literal to decide on
pub record Free (n : ℕ) (s : State) (p : ℕ) : Type 0 where
  pub range : p < 2 * n
  pub unset : Unset s.vars p
