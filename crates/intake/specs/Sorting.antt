-- A list that goes up and is another in another order is what the definition's sort makes of that.
use Rattle.std.specs.Prelude.{ℕ, suc, ◌+◌, ◌≤◌, ◌<◌, ◌≡◌, refl, Bool, true, false, List, [], ◌∷◌, length, eqb, leb}
use mathlib.Core.List.Memᴰ.{head as here}
use Rattle.std.specs.List.{sum_by}
use Rattle.std.specs.List.Sorted.{IsPermutation, IsNonDecreasing}
use Rattle.std.proofs.Common.{arith, sym, ap, ap₂, ◌∙◌, ne_eqb}
use Rattle.std.proofs.lemmas.List.Sorted.{sum_by-IsPermutation}
use Rattle.std.proofs.lemmas.List.Sums.{sum_by-cons}
use Rattle.model.specs.Intake.{insert, sort}
use Rattle.lawbase.specs.Basics.{Every, every_cons, shrink, less?, split}
use Rattle.assign.proofs.Lists.{index}
use Rattle.watching.specs.Sort.{Ascending}
use Rattle.watching.proofs.Sort.{sort_ascending}
use Rattle.watch.specs.Count.{bit, occ, same_bit}
use Rattle.scratch.specs.Row.{Row}

-- the list in b' is that of the part, sorted, in the cells of b
pub record Sorts (b b' : Row) (part : List ℕ) : Type 0 where
  pub items : b'.items ≡ sort part
  pub cells : length b'.cells ≡ length b.cells

-- ---- how often a number occurs

occ-sum : (z : ℕ) (xs : List ℕ) → sum_by (λ x. bit (eqb z x)) xs ≡ occ z xs
occ-sum z [] = refl
occ-sum z (x ∷ xs) = sum_by-cons (λ y. bit (eqb z y)) x xs ∙ ap (λ (n : ℕ). bit (eqb z x) + n) (occ-sum z xs)

occ-moved : (z : ℕ) (xs ys : List ℕ) → IsPermutation xs ys → occ z ys ≡ occ z xs
occ-moved z xs ys p = sym (occ-sum z ys) ∙ sum_by-IsPermutation (λ x. bit (eqb z x)) xs ys p ∙ occ-sum z xs

occ-insert : (z x : ℕ) (ys : List ℕ) → occ z (insert x ys) ≡ occ z (x ∷ ys)
unfolding insert
occ-insert z x [] = refl
occ-insert z x (y ∷ ys) = go (leb x y) (occ-insert z x ys)
  where
    go : (b : Bool) → occ z (insert x ys) ≡ occ z (x ∷ ys) → occ z (elim b [ true ↦ x ∷ y ∷ ys | false ↦ y ∷ insert x ys ]) ≡ occ z (x ∷ y ∷ ys)
    go true e = refl
    go false e = omega arith

occ-sort : (z : ℕ) (xs : List ℕ) → occ z (sort xs) ≡ occ z xs
unfolding sort
occ-sort z [] = refl
occ-sort z (x ∷ xs) = omega (arith, occ-insert z x (sort xs), occ-sort z xs)

occ_first : (y : ℕ) (ys : List ℕ) → 0 < occ y (y ∷ ys)
occ_first y ys = omega (arith, same_bit y)

occ_below : (z : ℕ) (xs : List ℕ) → Every (λ x. z < x) xs → occ z xs ≡ 0
occ_below z [] h = refl
occ_below z (x ∷ xs) h =
    let n : eqb z x ≡ false = ne_eqb z x (λ e. omega (arith, h x (here refl))) in
    omega (arith, ap bit n, occ_below z xs (shrink h))

-- ---- two lists that go up

-- the first of one is not above the first of the other
first_at_most : (x y : ℕ) (xs ys : List ℕ) → Ascending (x ∷ xs) → occ y (x ∷ xs) ≡ occ y (y ∷ ys) → x ≤ y
first_at_most x y xs ys up e =
    split (less? y x)
    (λ l. absurd (omega (arith, e, occ_first y ys, occ_below y (x ∷ xs) (every_cons (λ z. y < z) l (λ z i. omega (arith, l, up.0 z i))))))
    (λ g. g)

ascending_same : (xs ys : List ℕ) → Ascending xs → Ascending ys → ((z : ℕ) → occ z xs ≡ occ z ys) → xs ≡ ys
ascending_same [] [] a b e = refl
ascending_same [] (y ∷ ys) a b e = absurd (omega (arith, e y, occ_first y ys))
ascending_same (x ∷ xs) [] a b e = absurd (omega (arith, e x, occ_first x xs))
ascending_same (x ∷ xs) (y ∷ ys) a b e =
    let p : x ≡ y = omega (arith, first_at_most x y xs ys a (e y), first_at_most y x ys xs b (sym (e x))) in
    ap₂ (λ (k : ℕ) (l : List ℕ). k ∷ l) p (ascending_same xs ys a.1 b.1 (λ z. omega (arith, e z, ap (λ (k : ℕ). bit (eqb z k)) p)))

ascending : (xs : List ℕ) → IsNonDecreasing xs → Ascending xs
ascending [] up = tt
ascending (x ∷ xs) up = (
  λ y i. let k = index 0 i in omega (arith, up 0 (suc k.at) 0 (omega arith) (omega (arith, k.inside)), k.value),
  ascending xs (λ i j d l h. up (suc i) (suc j) d (omega (arith, l)) (omega (arith, h))),
)

pub sorted_is : (xs ys : List ℕ) → IsPermutation xs ys → IsNonDecreasing ys → ys ≡ sort xs
sorted_is xs ys p up = ascending_same ys (sort xs) (ascending ys up) (sort_ascending xs) (λ z. occ-moved z xs ys p ∙ sym (occ-sort z xs))
