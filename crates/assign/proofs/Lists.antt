-- Lists: a member's place, members of a reversed list, and how many variables a list can hold once each.
use Rattle.std.specs.Prelude.{◌≡◌, refl, ◌≢◌, ◌⊎◌, ℕ, suc, zero, ◌+◌, ◌≤◌, ◌<◌, length, get_or, take, drop, set}
use Rattle.std.proofs.Common.{ap, sym, ◌∙◌, subst, inl, inr, arith, take-append-drop, length-take, length-drop, get_or-take, get_or-drop}
use mathlib.Core.List.Memᴰ.{append_left as in_left}
use mathlib.Core.List.Memᴰ.{append_right as in_right}
use mathlib.Core.List.Memᴰ.{head as here}
use mathlib.Core.List.Memᴰ.{not-nil}
use mathlib.Core.List.Memᴰ.{tail as there}
use mathlib.Core.List.{List, [], ◌∷◌, ◌++◌, reverse, reverse_aux, reverse-append, append_assoc}
use Rattle.std.proofs.Math.Seq.{split_at}
use Rattle.model.specs.Lit.{var}
use Rattle.lawbase.specs.Basics.{◌∈◌, Every, every_nil, every_cons, shrink, split, same?}
use Rattle.lawbase.specs.WellFormed.{Distinct}
use Rattle.assign.specs.Lists.{Index, Within}

-- ---- a member's place

pub get_or_in : {A : Type 0} (l : List A) (i : ℕ) (d : A) → i < length l → get_or l i d ∈ l
get_or_in [] i d h = absurd (omega arith)
get_or_in (x ∷ l) zero d h = here refl
get_or_in (x ∷ l) (suc i) d h = there (get_or_in l i d (omega arith))

pub index : {A : Type 0} {a : A} (d : A) {l : List A} → a ∈ l → Index a d l
index d (here e) = record { at = 0; inside = omega arith; value = sym e }
index d (there i) =
    let k = index d i in
    record { at = suc k.at; inside = omega (arith, k.inside); value = k.value }

pub in_take : {A : Type 0} {a : A} (k : ℕ) (l : List A) → a ∈ take k l → a ∈ l
in_take {a = a} k l i = subst (λ m. a ∈ m) (take-append-drop k l) (in_left (drop k l) i)

pub in_drop : {A : Type 0} {a : A} (k : ℕ) (l : List A) → a ∈ drop k l → a ∈ l
in_drop {a = a} k l i = subst (λ m. a ∈ m) (take-append-drop k l) (in_right (take k l) i)

pub get_or_in_take : {A : Type 0} (l : List A) (k i : ℕ) (d : A) → i < k → i < length l → get_or l i d ∈ take k l
get_or_in_take [] k i d h b = absurd (omega arith)
get_or_in_take (x ∷ l) zero i d h b = absurd (omega arith)
get_or_in_take (x ∷ l) (suc k) zero d h b = here refl
get_or_in_take (x ∷ l) (suc k) (suc i) d h b = there (get_or_in_take l k i d (omega arith) (omega arith))

pub get_or_in_drop : {A : Type 0} (l : List A) (k i : ℕ) (d : A) → k ≤ i → i < length l → get_or l i d ∈ drop k l
get_or_in_drop [] k i d h b = absurd (omega arith)
get_or_in_drop (x ∷ l) zero i d h b = get_or_in (x ∷ l) i d b
get_or_in_drop (x ∷ l) (suc k) zero d h b = absurd (omega arith)
get_or_in_drop (x ∷ l) (suc k) (suc i) d h b = get_or_in_drop l k i d (omega arith) (omega arith)

pub index-take : {A : Type 0} {a : A} (d : A) (k : ℕ) (l : List A) → a ∈ take k l → Within a d l 0 k
index-take d k l i =
    let x = index d i in
    let b : x.at < k = omega (arith, x.inside, length-take k l) in
    record {
      at = x.at;
      least = omega arith;
      most = b;
      inside = omega (arith, x.inside, length-take k l);
      value = sym (get_or-take k l x.at d b) ∙ x.value;
    }

pub index-drop : {A : Type 0} {a : A} (d : A) (k : ℕ) (l : List A) → a ∈ drop k l → Within a d l k (length l)
index-drop d k l i =
    let x = index d i in
    let b : k + x.at < length l = omega (arith, x.inside, length-drop k l) in
    record { at = k + x.at; least = omega arith; most = b; inside = b; value = sym (get_or-drop k l x.at d) ∙ x.value }

-- what holds of each member and of the new one
pub set_every : {A : Type 0} (P : A → Type 0) (l : List A) (i : ℕ) (a : A) → P a → Every P l → Every P (set l i a)
set_every P [] i a h f x k = absurd (not-nil k)
set_every P (y ∷ l) zero a h f x (here e) = subst P (sym e) h
set_every P (y ∷ l) zero a h f x (there k) = f x (there k)
set_every P (y ∷ l) (suc i) a h f x (here e) = f x (here e)
set_every P (y ∷ l) (suc i) a h f x (there k) = set_every P l i a h (shrink f) x k

-- ---- reversed

aux_right : {A : Type 0} {a : A} (l r : List A) → a ∈ r → a ∈ reverse_aux l r
aux_right [] r i = i
aux_right (x ∷ l) r i = aux_right l (x ∷ r) (there i)

aux_left : {A : Type 0} {a : A} {l : List A} (r : List A) → a ∈ l → a ∈ reverse_aux l r
aux_left r (here {x = x} {xs = l} e) = aux_right l (x ∷ r) (here e)
aux_left r (there {x = x} {xs = l} i) = aux_left (x ∷ r) i

moved : {A : Type 0} {a x : A} {l r : List A} → (a ∈ l) ⊎ (a ∈ (x ∷ r)) → (a ∈ (x ∷ l)) ⊎ (a ∈ r)
moved (inl i) = inl (there i)
moved (inr (here e)) = inl (here e)
moved (inr (there i)) = inr i

aux_cases : {A : Type 0} {a : A} (l r : List A) → a ∈ reverse_aux l r → (a ∈ l) ⊎ (a ∈ r)
aux_cases [] r i = inr i
aux_cases (x ∷ l) r i = moved (aux_cases l (x ∷ r) i)

pub in_reverse : {A : Type 0} {a : A} {l : List A} → a ∈ l → a ∈ reverse l
in_reverse i = aux_left [] i

pub from_reverse : {A : Type 0} {a : A} (l : List A) → a ∈ reverse l → a ∈ l
from_reverse l i = split (aux_cases l [] i) (λ k. k) (λ k. absurd (not-nil k))

pub reverse_snoc : {A : Type 0} (l : List A) (a : A) → reverse (l ++ (a ∷ [])) ≡ a ∷ reverse l
reverse_snoc l a = reverse-append l (a ∷ [])

-- what stands in front of place i, newest first, behind what stands at i
pub reverse_at : {A : Type 0} (l : List A) (i : ℕ) (d : A) → i < length l
    → reverse l ≡ reverse (drop (suc i) l) ++ (get_or l i d ∷ reverse (take i l))
reverse_at l i d h =
    ap reverse (split_at l i d h)
    ∙ reverse-append (take i l) (get_or l i d ∷ drop (suc i) l)
    ∙ ap (λ m. m ++ reverse (take i l)) (reverse-append (get_or l i d ∷ []) (drop (suc i) l))
    ∙ append_assoc (reverse (drop (suc i) l)) (get_or l i d ∷ []) (reverse (take i l))

pub reverse-cut : {A : Type 0} (l : List A) (k : ℕ) → reverse l ≡ reverse (drop k l) ++ reverse (take k l)
reverse-cut l k = ap reverse (sym (take-append-drop k l)) ∙ reverse-append (take k l) (drop k l)

-- ---- variables

-- a literal of variable v, or none
pub holds? : (v : ℕ) (l : List ℕ) → ((q : ℕ) × (q ∈ l) × (var q ≡ v)) ⊎ Every (λ q. var q ≢ v) l
holds? v [] = inr (every_nil (λ q. var q ≢ v))
holds? v (x ∷ l) = go (same? (var x) v) (holds? v l)
  where
    go : (var x ≡ v) ⊎ (var x ≢ v) → ((q : ℕ) × (q ∈ l) × (var q ≡ v)) ⊎ Every (λ q. var q ≢ v) l
        → ((q : ℕ) × (q ∈ (x ∷ l)) × (var q ≡ v)) ⊎ Every (λ q. var q ≢ v) (x ∷ l)
    go (inl e) r = inl (x, here refl, e)
    go (inr n) (inl k) = inl (k.0, there k.1, k.2)
    go (inr n) (inr k) = inr (every_cons (λ q. var q ≢ v) n k)

keep : (v x : ℕ) → (var x ≡ v) ⊎ (var x ≢ v) → List ℕ → List ℕ
keep v x (inl e) l = l
keep v x (inr n) l = x ∷ l

-- the literals of other variables
without : ℕ → List ℕ → List ℕ
without v [] = []
without v (x ∷ l) = keep v x (same? (var x) v) (without v l)

keep_in : (v x : ℕ) {q : ℕ} (c : (var x ≡ v) ⊎ (var x ≢ v)) (l m : List ℕ) → Every (λ p. (p ∈ l) × (var p ≢ v)) m → q ∈ keep v x c m → (q ∈ (x ∷ l)) × (var q ≢ v)
unfolding keep
keep_in v x {q} (inl e) l m h i = (there (h q i).0, (h q i).1)
keep_in v x (inr n) l m h (here e) = (here e, λ z. n (sym (ap var e) ∙ z))
keep_in v x {q} (inr n) l m h (there i) = (there (h q i).0, (h q i).1)

without_in : (v : ℕ) (l : List ℕ) → Every (λ q. (q ∈ l) × (var q ≢ v)) (without v l)
unfolding without
without_in v [] q i = absurd (not-nil i)
without_in v (x ∷ l) q i = keep_in v x (same? (var x) v) l (without v l) (without_in v l) i

without_all : (v : ℕ) (l : List ℕ) → Every (λ q. var q ≢ v) l → without v l ≡ l
unfolding without keep
without_all v [] h = refl
without_all v (x ∷ l) h = go (same? (var x) v) (without_all v l (shrink h))
  where
    go : (c : (var x ≡ v) ⊎ (var x ≢ v)) → without v l ≡ l → keep v x c (without v l) ≡ x ∷ l
    go (inl e) r = absurd (h x (here refl) e)
    go (inr n) r = ap (λ m. x ∷ m) r

without-distinct : (v : ℕ) (l : List ℕ) → Distinct l → Distinct (without v l)
unfolding without keep
without-distinct v [] d = d
without-distinct v (x ∷ l) d = go (same? (var x) v) (without-distinct v l d.1)
  where
    go : (c : (var x ≡ v) ⊎ (var x ≢ v)) → Distinct (without v l) → Distinct (keep v x c (without v l))
    go (inl e) r = r
    go (inr n) r = (λ m i. d.0 m (without_in v l m i).0, r)

without-length : (v : ℕ) (l : List ℕ) → Distinct l → length l ≤ suc (length (without v l))
unfolding without keep
without-length v [] d = omega arith
without-length v (x ∷ l) d = go (same? (var x) v) (without-length v l d.1)
  where
    go : (c : (var x ≡ v) ⊎ (var x ≢ v)) → length l ≤ suc (length (without v l)) → suc (length l) ≤ suc (length (keep v x c (without v l)))
    go (inl e) r = rw (without_all v l (λ m i. rw (← e) (d.0 m i))) (omega arith)
    go (inr n) r = omega arith

-- n variables, each once at most
pub distinct-length : (n : ℕ) (l : List ℕ) → Distinct l → Every (λ q. var q < n) l → length l ≤ n
distinct-length zero [] d h = omega arith
distinct-length zero (x ∷ l) d h = absurd (omega (arith, h x (here refl)))
distinct-length (suc n) l d h =
    let less : Every (λ q. var q < n) (without n l) = λ q i. omega (arith, h q (without_in n l q i).0, (without_in n l q i).1) in
    omega (arith, without-length n l d, distinct-length n (without n l) (without-distinct n l d) less)
