-- The state of a solve under assumptions, and the steps that keep it so.
use Rattle.std.specs.Prelude.{List, ℕ, length}
use Rattle.model.specs.Script.{Config}
use Rattle.model.specs.State.{State}
use Rattle.lawbase.specs.WellFormed.{WellFormed}
use Rattle.assign.specs.Levels.{Levels}
use Rattle.assign.specs.Assumed.{Assumed}

-- ---- a solve

pub record Searching (cfg : Config) (assumptions : List ℕ) (s : State) : Type 0 where
  pub formed : WellFormed cfg s
  pub levels : Levels (length assumptions) s.vars
  pub assumed : Assumed assumptions s.vars
