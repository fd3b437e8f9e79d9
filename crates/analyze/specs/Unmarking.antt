-- The marks of a clause are taken back, one by one.
use Rattle.std.specs.Prelude.{ℕ, suc, ◌+◌, ◌≤◌, ◌<◌, ◌≡◌, ◌≢◌, true, List, ◌∷◌, length, get_or, set, drop, replicate}
use Rattle.std.proofs.Common.{arith, add-one, sym, ap, ◌∙◌, length-set, drop-cons, drop_of_length-le, eqb-true, eq-eqb, ext_get_or}
use Rattle.std.proofs.lemmas.List.{length-replicate, get_or-replicate}
use mathlib.Core.List.Memᴰ.{head as here}
use mathlib.Core.List.Memᴰ.{not-nil}
use mathlib.Core.List.Memᴰ.{tail as there}
use Rattle.std.proofs.Math.ListN.{get_or-eq_default}
use Rattle.model.specs.Lit.{var}
use Rattle.lawbase.specs.Basics.{◌∈◌, split, less?, same?}
use Rattle.learning.proofs.Trail.{index_in}
use Rattle.learning.specs.Marks.{seen_at, Cells, MarksOf}
use Rattle.learning.proofs.Marks.{clear_was, cells-set}
use Rattle.trail.specs.View.{LitsOf}

-- a marked variable is one of them
seen_in : (m : List ℕ) (v : ℕ) → seen_at m v ≡ true → v < length m
seen_in m v e = split (less? v (length m)) (λ h. h)
    (λ h.
    let z : get_or m v 0 ≡ 0 = get_or-eq_default m 0 h in
    let o : get_or m v 0 ≡ 1 = eqb-true (get_or m v 0) 1 e in
    absurd (omega arith))

pub marks_lits : (n : ℕ) (m ls : List ℕ) → MarksOf n m ls → LitsOf n ls
marks_lits n m ls k i h = rw (← k.sized) (seen_in m (var (get_or ls i 0)) (k.all (get_or ls i 0) (index_in ls i 0 h)))

-- only variables of the literals b from place i on are marked, of n variables
pub record Left (n : ℕ) (m b : List ℕ) (i : ℕ) : Type 0 where
  pub sized : length m ≡ n
  pub cells : Cells m
  pub only : (v : ℕ) → seen_at m v ≡ true → (q : ℕ) × (q ∈ drop i b) × (var q ≡ v)

pub left_less : (n : ℕ) (m b : List ℕ) (i : ℕ) → Left n m b i → i < length b → Left n (set m (var (get_or b i 0)) 0) b (i + 1)
left_less n m b i k h =
    record {
      sized = length-set m (var (get_or b i 0)) 0 ∙ k.sized;
      cells = cells-set m (var (get_or b i 0)) 0 (omega arith) k.cells;
      only = λ v e.
          let c = clear_was m (var (get_or b i 0)) v e in
          let o = k.only v c.1 in
          (o.0, rw (add-one i) (behind o.0 v (rw (drop-cons b i 0 h) at o.1) o.2 c.0), o.2);
    }
  where
    behind : (p v : ℕ) → p ∈ (get_or b i 0 ∷ drop (suc i) b) → var p ≡ v → v ≢ var (get_or b i 0) → p ∈ drop (suc i) b
    behind p v (here e) f g = absurd (g (sym f ∙ ap var e))
    behind p v (there j) f g = j

pub left_none : (n : ℕ) (m b : List ℕ) (i : ℕ) → Left n m b i → length b ≤ i → m ≡ replicate n 0
left_none n m b i k h =
    ext_get_or 0 m (replicate n 0) (k.sized ∙ sym (length-replicate n 0))
    (λ v g.
    let l : v < n = omega (arith, k.sized) in
    let z : get_or m v 0 ≡ 0 = split (same? (get_or m v 0) 1)
    (λ e. absurd (not-nil (rw (drop_of_length-le b h) at (k.only v (eq-eqb (get_or m v 0) 1 e)).1)))
    (λ e. omega (arith, k.cells v)) in
    z ∙ sym (get_or-replicate n v 0 0 l))
