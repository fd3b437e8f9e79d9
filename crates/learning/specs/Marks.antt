-- Marks: a cell for each variable, 1 where it is seen.
use Rattle.std.specs.Prelude.{◌≡◌, Bool, true, not, List, [], ◌∷◌, ℕ, ◌+◌, ◌<◌, eqb, length, get_or}
use Rattle.model.specs.Lit.{var}
use Rattle.model.specs.Minimise.{is_seen}
use Rattle.lawbase.specs.Basics.{◌∈◌, Every}
use Rattle.lawbase.specs.WellFormed.{bit}

-- is_seen, by variable
abbrev pub seen_at : List ℕ → ℕ → Bool
seen_at seen v = eqb (get_or seen v 0) 1

-- the cells are 0 and 1
abbrev pub Cells : List ℕ → Type 0
Cells m = (v : ℕ) → get_or m v 0 < 2

-- n cells, 0 or 1; a 1 for exactly the variables of ls
pub record MarksOf (n : ℕ) (seen ls : List ℕ) : Type 0 where
  pub sized : length seen ≡ n
  pub cells : Cells seen
  pub all : Every (λ q. is_seen seen q ≡ true) ls
  pub only : (v : ℕ) → seen_at seen v ≡ true → (q : ℕ) × (q ∈ ls) × (var q ≡ v)

-- the cells that are not 1
unfoldable pub unseen : List ℕ → ℕ
unseen [] = 0
unseen (x ∷ m) = bit (not (eqb x 1)) + unseen m
