-- Rule 5 after a conflict: a clause is stored or a unit put at level 0, a level at least is left; or there is no room.
use Rattle.std.specs.Prelude.{ℕ, suc, ◌≤◌, ◌<◌, length}
use mathlib.Core.List.{List}
use Rattle.std.specs.Prelude.{Option, None as none, Some as some}
use Rattle.model.specs.Script.{Config}
use Rattle.model.specs.State.{Store, State, decision_level}
use Rattle.watching.specs.Store.{Room}
use Rattle.ends.specs.Credit.{Ongoing, credit}

-- from s, with its conflict, to s'
pub record Learns (cfg : Config) (assumptions : List ℕ) (s s' : State) : Type 0 where
  pub ongoing : Ongoing cfg assumptions s'
  pub less : suc (credit cfg s') ≤ credit cfg s
  pub shallower : decision_level s'.vars < decision_level s.vars

-- a clause of two literals or more, for which there is no room
pub record Full (cfg : Config) (st : Store) (clause : List ℕ) : Type 0 where
  pub two : 2 ≤ length clause
  pub full : Room cfg st clause → ⊥

pub data Backjump (cfg : Config) (assumptions : List ℕ) (s : State) (clause : List ℕ) : Option State → Type 0 where
  no_room : Full cfg s.store clause → Backjump cfg assumptions s clause none
  learns : (s' : State) → Learns cfg assumptions s s' → (2 ≤ length clause → Room cfg s.store clause) → Backjump cfg assumptions s clause (some s')
