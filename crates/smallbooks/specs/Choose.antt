-- Members taken out of a list: k-combinations, in the list's order. All of them come, in order, none twice and no other.
use Rattle.std.specs.Prelude.{◌≡◌, length}
use mathlib.Core.List.{List, [], ◌∷◌, ◌++◌, map}
use Prim.Native.Nat.{ℕ, zero, suc, ◌<◌}
use Rattle.lawbase.specs.Basics.{Every}

module _ {A : Type 0} where
  -- the ways to take k members of a list
  unfoldable pub combinations : ℕ → List A → List (List A)
  combinations zero xs = [] ∷ []
  combinations (suc k) [] = []
  combinations (suc k) (x ∷ xs) = map (λ c. x ∷ c) (combinations k xs) ++ combinations (suc k) xs

  -- the ways to take k members, k + 1, .. : n sizes, one after the other
  unfoldable pub of_sizes : ℕ → ℕ → List A → List (List A)
  of_sizes k zero xs = []
  of_sizes k (suc n) xs = combinations k xs ++ of_sizes (suc k) n xs

  -- ---- order

  module _ (◌≺◌ : A → A → Type 0) where
    infix 20 ◌≺◌
    -- each member comes before all that follow
    abbrev pub Ascending : List A → Type 0
    Ascending [] = Unit {0}
    Ascending (x ∷ xs) = Every (λ y. x ≺ y) xs × Ascending xs

    -- member by member: the first that differ decide
    pub data Lex : List A → List A → Type 0 where
      first : {x y : A} {c d : List A} → x ≺ y → Lex (x ∷ c) (y ∷ d)
      later : {x : A} {c d : List A} → Lex c d → Lex (x ∷ c) (x ∷ d)

    -- by length, then member by member
    pub data Before (c d : List A) : Type 0 where
      shorter : length c < length d → Before c d
      as_long : length c ≡ length d → Lex c d → Before c d
