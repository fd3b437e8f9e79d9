-- What the entries of a trail, newest first, say of each other.
use Rattle.std.specs.Prelude.{◌≡◌, refl, ◌≢◌, ◌⊎◌, ℕ, suc, zero, ◌*◌, ◌-◌, ◌≤◌, ◌<◌, length, get_or}
use Rattle.std.proofs.Common.{ap, sym, ◌∙◌, inl, inr, arith}
use mathlib.Core.List.Memᴰ.{head as here}
use mathlib.Core.List.Memᴰ.{not-nil}
use mathlib.Core.List.Memᴰ.{tail as there}
use mathlib.Core.List.{List, [], ◌∷◌, ◌++◌, reverse, reverse_aux}
use Rattle.model.specs.Lit.{var, neg, no_reason}
use Rattle.model.specs.State.{VarState, decision_level, level_lit, reason_lit}
use Rattle.lawbase.specs.Basics.{◌∈◌, Every, split, less?, neg_inj, var-neg}
use Rattle.lawbase.specs.WellFormed.{Implies, Ground, Ground.fixed, Ground.decided, Ground.implied, Entries}

-- ---- lists

in_aux_left : {A : Type 0} {x : A} (l r : List A) → x ∈ r → x ∈ reverse_aux l r
in_aux_left [] r i = i
in_aux_left (y ∷ l) r i = in_aux_left l (y ∷ r) (there i)

in_aux_right : {A : Type 0} {x : A} (l r : List A) → x ∈ l → x ∈ reverse_aux l r
in_aux_right [] r i = absurd (not-nil i)
in_aux_right (y ∷ l) r (here e) = in_aux_left l (y ∷ r) (here e)
in_aux_right (y ∷ l) r (there i) = in_aux_right l (y ∷ r) i

from_aux : {A : Type 0} {x : A} (l r : List A) → x ∈ reverse_aux l r → (x ∈ l) ⊎ (x ∈ r)
from_aux [] r i = inr i
from_aux {A} {x} (y ∷ l) r i = go (from_aux l (y ∷ r) i)
  where
    go : (x ∈ l) ⊎ (x ∈ (y ∷ r)) → (x ∈ (y ∷ l)) ⊎ (x ∈ r)
    go (inl j) = inl (there j)
    go (inr (here e)) = inl (here e)
    go (inr (there j)) = inr j

pub in_reverse : {A : Type 0} {x : A} (l : List A) → x ∈ l → x ∈ reverse l
in_reverse l i = in_aux_right l [] i

pub from_reverse : {A : Type 0} {x : A} (l : List A) → x ∈ reverse l → x ∈ l
from_reverse l i = split (from_aux l [] i) (λ j. j) (λ j. absurd (not-nil j))

-- a clause with a literal is stored
pub get_or_in : {A : Type 0} (cs : List (List A)) (i : ℕ) {x : A} → x ∈ get_or cs i [] → get_or cs i [] ∈ cs
get_or_in [] i h = absurd (not-nil h)
get_or_in (c ∷ cs) zero h = here refl
get_or_in (c ∷ cs) (suc i) h = there (get_or_in cs i h)

pub index_in : {A : Type 0} (cs : List A) (i : ℕ) (d : A) → i < length cs → get_or cs i d ∈ cs
index_in [] i d h = absurd (omega arith)
index_in (c ∷ cs) zero d h = here refl
index_in (c ∷ cs) (suc i) d h = there (index_in cs i d (omega arith))

-- ---- entries

-- what has a reason was implied
pub caused : {cs : List (List ℕ)} {vs : VarState} {p : ℕ} {before : List ℕ} → Ground cs vs p before → reason_lit vs p ≢ no_reason
    → Implies cs (reason_lit vs p) p before
caused (fixed e l) ne = absurd (ne e)
caused (decided e l o) ne = absurd (ne e)
caused (implied ne i) _ = i

module _ (n : ℕ) (cs : List (List ℕ)) (vs : VarState) where
  -- a variable stands once
  pub once : (t : List ℕ) → Entries n cs vs t → (p q : ℕ) → p ∈ t → q ∈ t → var p ≡ var q → p ≡ q
  once [] w p q i j e = absurd (not-nil i)
  once (x ∷ t) w p q (here a) (here b) e = a ∙ sym b
  once (x ∷ t) w p q (here a) (there j) e = absurd (w.0.fresh q j (sym e ∙ ap var a))
  once (x ∷ t) w p q (there i) (here b) e = absurd (w.0.fresh p i (e ∙ ap var b))
  once (x ∷ t) w p q (there i) (there j) e = once t w.1 p q i j e

  pub once_neg : (t : List ℕ) → Entries n cs vs t → (p q : ℕ) → neg p ∈ t → neg q ∈ t → var p ≡ var q → p ≡ q
  once_neg t w p q i j e = neg_inj p q (once t w (neg p) (neg q) i j (var-neg p ∙ e ∙ sym (var-neg q)))

  pub in_range : (t : List ℕ) → Entries n cs vs t → Every (λ p. p < 2 * n) t
  in_range [] w p i = absurd (not-nil i)
  in_range (x ∷ t) w p (here e) = rw e w.0.range
  in_range (x ∷ t) w p (there i) = in_range t w.1 p i

  pub levels_top : (t : List ℕ) → Entries n cs vs t → Every (λ p. level_lit vs p ≤ decision_level vs) t
  levels_top [] w p i = absurd (not-nil i)
  levels_top (x ∷ t) w p (here e) = rw e w.0.level
  levels_top (x ∷ t) w p (there i) = levels_top t w.1 p i

  -- a limit at or below the level of a literal stands below its place
  pub above_in : (t : List ℕ) → Entries n cs vs t → (q : ℕ) → q ∈ t → (k : ℕ) → k < level_lit vs q → get_or vs.limits k 0 < length t
  above_in [] w q i k h = absurd (not-nil i)
  above_in (x ∷ t) w q (here e) k h = omega (arith, w.0.above k (rw e at h))
  above_in (x ∷ t) w q (there i) k h = omega (arith, above_in t w.1 q i k h)

  -- levels rise along the trail
  pub sorted : (p : ℕ) (t : List ℕ) → Entries n cs vs (p ∷ t) → Every (λ q. level_lit vs q ≤ level_lit vs p) t
  sorted p t w q i = split (less? (level_lit vs p) (level_lit vs q))
      (λ h.
      let a = above_in t w.1 q i (level_lit vs p) h in
      let b = levels_top t w.1 q i in
      absurd (omega (arith, w.0.below (level_lit vs p) (omega arith) (omega arith))))
      (λ h. h)

  -- a decision opens its level
  pub decided_opens : (p : ℕ) (t : List ℕ) → Entries n cs vs (p ∷ t) → 0 < level_lit vs p → get_or vs.limits (level_lit vs p - 1) 0 ≡ length t
      → Every (λ q. level_lit vs q < level_lit vs p) t
  decided_opens p t w z e q i = split (less? (level_lit vs q) (level_lit vs p))
      (λ h. h)
      (λ h. absurd (omega (arith, above_in t w.1 q i (level_lit vs p - 1) (omega arith))))

  pub entries_behind : (s t : List ℕ) → Entries n cs vs (s ++ t) → Entries n cs vs t
  entries_behind [] t w = w
  entries_behind (x ∷ s) t w = entries_behind s t w.1
