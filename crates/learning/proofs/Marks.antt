-- Marks: a cell for each variable, 1 where it is seen.
use Rattle.std.specs.Prelude.{◌≡◌, refl, ◌≢◌, ◌⊎◌, true, false, List, [], ◌∷◌, ℕ, suc, zero, ◌≤◌, ◌<◌, eqb, length, get_or, set, replicate}
use Rattle.std.proofs.Common.{ap, sym, ◌∙◌, subst, inl, inr, true≢false, arith, get_or-set_same, get_or-set_other, eq-eqb}
use Rattle.std.proofs.lemmas.List.{length-replicate, get_or-replicate}
use Rattle.std.proofs.Math.ListN.{get_or-eq_default}
use Rattle.std.proofs.Math.Seq.{set_out}
use Rattle.lawbase.specs.Basics.{split, same?, on?, less?}
use Rattle.lawbase.specs.WellFormed.{bit}
use Rattle.learning.specs.Marks.{seen_at, Cells, unseen}

-- a cell set, whether or not it is there
pub cell : (P : ℕ → Type 0) (m : List ℕ) (v x u : ℕ) → (u ≡ v → P x) → P (get_or m u 0) → P (get_or (set m v x) u 0)
cell P m v x u f g = split (same? u v)
    (λ e. split (less? v (length m))
    (λ h. subst (λ i. P (get_or (set m v x) i 0)) (sym e) (rw (get_or-set_same m v x 0 h) (f e)))
    (λ h. rw (set_out m v x h) g))
    (λ ne. rw (get_or-set_other m v u x 0 ne) g)

pub mark_same : (m : List ℕ) (v : ℕ) → v < length m → seen_at (set m v 1) v ≡ true
mark_same m v h = eq-eqb (get_or (set m v 1) v 0) 1 (get_or-set_same m v 1 0 h)

pub mark_keep : (m : List ℕ) (v u : ℕ) → seen_at m u ≡ true → seen_at (set m v 1) u ≡ true
mark_keep m v u h = cell (λ x. eqb x 1 ≡ true) m v 1 u (λ _. refl) h

pub mark_other : (m : List ℕ) (v x u : ℕ) → u ≢ v → seen_at (set m v x) u ≡ seen_at m u
mark_other m v x u ne = ap (λ y. eqb y 1) (get_or-set_other m v u x 0 ne)

pub mark_new : (m : List ℕ) (v u : ℕ) → seen_at (set m v 1) u ≡ true → (u ≡ v) ⊎ (seen_at m u ≡ true)
mark_new m v u h = split (same? u v) inl (λ ne. inr (sym (mark_other m v 1 u ne) ∙ h))

pub clear_same : (m : List ℕ) (v : ℕ) → seen_at (set m v 0) v ≡ false
clear_same m v = split (less? v (length m))
    (λ h. ap (λ y. eqb y 1) (get_or-set_same m v 0 0 h))
    (λ h. ap (λ y. eqb (get_or y v 0) 1) (set_out m v 0 h) ∙ ap (λ y. eqb y 1) (get_or-eq_default m 0 h))

pub clear_was : (m : List ℕ) (v u : ℕ) → seen_at (set m v 0) u ≡ true → (u ≢ v) × (seen_at m u ≡ true)
clear_was m v u h = (
  λ e. true≢false (sym h ∙ ap (seen_at (set m v 0)) e ∙ clear_same m v),
  split (same? u v)
      (λ e. absurd (true≢false (sym h ∙ ap (seen_at (set m v 0)) e ∙ clear_same m v)))
      (λ ne. sym (mark_other m v 0 u ne) ∙ h),
)

pub none_seen : (n v : ℕ) → seen_at (replicate n 0) v ≡ false
none_seen n v = split (less? v n)
    (λ h. ap (λ y. eqb y 1) (get_or-replicate {A = ℕ} n v 0 0 h))
    (λ h. ap (λ y. eqb y 1) (get_or-eq_default {A = ℕ} (replicate n 0) 0 {n = v} (rw (length-replicate {A = ℕ} n 0) h)))

pub cells-set : (m : List ℕ) (v x : ℕ) → x < 2 → Cells m → Cells (set m v x)
cells-set m v x h c u = cell (λ y. y < 2) m v x u (λ _. h) (c u)

pub cells_none : (n : ℕ) → Cells (replicate n 0)
cells_none n v = split (less? v n)
    (λ h. omega (arith, get_or-replicate {A = ℕ} n v 0 0 h))
    (λ h. omega (arith, get_or-eq_default {A = ℕ} (replicate n 0) 0 {n = v} (rw (length-replicate {A = ℕ} n 0) h)))

pub unseen-mark : (m : List ℕ) (v : ℕ) → v < length m → seen_at m v ≡ false → unseen m ≡ suc (unseen (set m v 1))
unfolding unseen
unseen-mark [] v h e = absurd (omega arith)
unseen-mark (x ∷ m) zero h e = rw e (omega arith)
unseen-mark (x ∷ m) (suc v) h e = omega (arith, unseen-mark m v (omega arith) e)

pub unseen_most : (m : List ℕ) → unseen m ≤ length m
unfolding unseen
unseen_most [] = omega arith
unseen_most (x ∷ m) = split (on? (eqb x 1)) (λ e. rw e (omega (arith, unseen_most m))) (λ e. rw e (omega (arith, unseen_most m)))

pub unseen_less : (m : List ℕ) (v : ℕ) → seen_at m v ≡ true → unseen m < length m
unfolding unseen
unseen_less [] v e = let z : bit false ≡ bit true = ap bit e in absurd (omega arith)
unseen_less (x ∷ m) zero e = rw e (omega (arith, unseen_most m))
unseen_less (x ∷ m) (suc v) e =
    let r = unseen_less m v e in
    split (on? (eqb x 1)) (λ h. rw h (omega arith)) (λ h. rw h (omega arith))
