-- Lists: a member's place, members of a reversed list, and how many variables a list can hold once each.
use Rattle.std.specs.Prelude.{◌≡◌, ℕ, ◌≤◌, ◌<◌, length, get_or}
use mathlib.Core.List.{List}

-- ---- a member's place

pub record Index {A : Type 0} (a d : A) (l : List A) : Type 0 where
  pub at : ℕ
  pub inside : at < length l
  pub value : get_or l at d ≡ a

-- the place in the whole list
pub record Within {A : Type 0} (a d : A) (l : List A) (from to : ℕ) : Type 0 where
  pub at : ℕ
  pub least : from ≤ at
  pub most : at < to
  pub inside : at < length l
  pub value : get_or l at d ≡ a
