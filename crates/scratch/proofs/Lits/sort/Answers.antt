use Rattle.std.proofs.Common.{◌≡◌, ◌≤◌, ◌++◌, ℕ, List, length, take, drop, arith, length-take-le, subst, sym, ◌∙◌, ap}
use Rattle.std.proofs.Math.Seq.{take-append_seam}
use Rattle.std.specs.List.Sorted.{IsNonDecreasing}
use Rattle.std.proofs.lemmas.List.Sorted.{length_permutation}
use Rattle.scratch.proofs.Lits.sort.Goals as goal

sorted_front : (n : ℕ) (cells ys : List ℕ) → n ≤ length cells → length ys ≡ length (take n cells) → IsNonDecreasing ys → IsNonDecreasing (take n (ys ++ drop n cells))
sorted_front n cells ys fits l up =
    let e : n ≡ length ys = omega (arith, length-take-le n cells fits) in
    subst (λ (xs : List ℕ). IsNonDecreasing xs) (sym (ap (λ (k : ℕ). take k (ys ++ drop n cells)) e ∙ take-append_seam ys (drop n cells))) up

pub returns-clause-sorted : goal.returns-clause-sorted
returns-clause-sorted c =
    sorted_front _ _ _ c.self.invariant (length_permutation _ _ c.put_in_order.ensures.moved) c.put_in_order.ensures.sorted
