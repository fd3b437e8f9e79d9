-- Clauses with the same literals in another order.
use Rattle.std.specs.Prelude.{◌≡◌, refl, ◌≢◌, List, [], ◌∷◌, ℕ, suc, zero, ◌*◌, ◌<◌, length, get_or, set}
use Rattle.std.proofs.Common.{ap, sym, ◌∙◌, not-suc-le-zero, le_of_suc-le-suc, arith}
use mathlib.Core.List.Memᴰ.{head as here}
use mathlib.Core.List.Memᴰ.{tail as there}
use Rattle.model.specs.Lit.{var}
use Rattle.lawbase.specs.Basics.{◌∈◌, Every, every_cons}
use Rattle.lawbase.specs.WellFormed.{Distinct, Proper}
use Rattle.watching.specs.Permuted.{Permuted, same, keep, swap, chain}

pub perm_sym : {c d : List ℕ} → Permuted c d → Permuted d c
perm_sym same = same
perm_sym (keep l p) = keep l (perm_sym p)
perm_sym (swap l m) = swap m l
perm_sym (chain p q) = chain (perm_sym q) (perm_sym p)

pub perm_in : {c d : List ℕ} → Permuted c d → Every (λ x. x ∈ d) c
perm_in same x i = i
perm_in (keep l p) x (here e) = here e
perm_in (keep l p) x (there i) = there (perm_in p x i)
perm_in (swap l m) x (here e) = there (here e)
perm_in (swap l m) x (there (here e)) = here e
perm_in (swap l m) x (there (there i)) = there (there i)
perm_in (chain p q) x i = perm_in q x (perm_in p x i)

pub perm_every : (P : ℕ → Type 0) {c d : List ℕ} → Permuted c d → Every P c → Every P d
perm_every P p h x i = h x (perm_in (perm_sym p) x i)

pub perm_length : {c d : List ℕ} → Permuted c d → length c ≡ length d
perm_length same = refl
perm_length (keep l p) = ap suc (perm_length p)
perm_length (swap l m) = refl
perm_length (chain p q) = perm_length p ∙ perm_length q

pub perm_distinct : {c d : List ℕ} → Permuted c d → Distinct c → Distinct d
perm_distinct same h = h
perm_distinct (keep l p) h = (perm_every (λ m. var m ≢ var l) p h.0, perm_distinct p h.1)
perm_distinct (swap l m) h =
    (every_cons (λ x. var x ≢ var m) (λ e. h.0 m (here refl) (sym e)) h.1.0, ((λ x i. h.0 x (there i)), h.1.1))
perm_distinct (chain p q) h = perm_distinct q (perm_distinct p h)

pub perm_proper : (n : ℕ) {c d : List ℕ} → Permuted c d → Proper n c → Proper n d
perm_proper n {c} {d} p h =
    record {
      two = omega (arith, perm_length p, h.two);
      range = perm_every (λ l. l < 2 * n) p h.range;
      distinct = perm_distinct p h.distinct;
    }

-- the literal f before a clause changes places with the one at k
pub perm_place : (f : ℕ) (c : List ℕ) (k : ℕ) → k < length c → Permuted (f ∷ c) (get_or c k 0 ∷ set c k f)
perm_place f [] k h = absurd (not-suc-le-zero h)
perm_place f (x ∷ c) zero h = swap f x
perm_place f (x ∷ c) (suc k) h = chain (swap f x) (chain (keep x (perm_place f c k (le_of_suc-le-suc h))) (swap x (get_or c k 0)))
