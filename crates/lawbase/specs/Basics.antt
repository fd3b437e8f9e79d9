-- Membership, tests as cases, and literals: what every law uses.
use Rattle.std.specs.Prelude.{◌≡◌, refl, ◌≢◌, ◌⊎◌, Bool, true, false, ℕ, ◌*◌, ◌≤◌, ◌<◌}
use Rattle.std.proofs.Common.{sym, subst, inl, inr, ⊎_elim, arith}
use mathlib.Core.List.Memᴰ.{append_cases}
use mathlib.Core.List.Memᴰ.{head as here}
use mathlib.Core.List.Memᴰ.{not-nil}
use mathlib.Core.List.Memᴰ.{tail as there}
use mathlib.Core.List.{List, [], ◌∷◌, ◌++◌, Memᴰ}
use Rattle.std.proofs.Math.Decide.{ℕ_discrete, dec_lt}
use Rattle.model.specs.Lit.{var, neg}

infix 4 ◌∈◌
abbrev pub ◌∈◌ : {A : Type 0} → A → List A → Type 0
a ∈ l = Memᴰ a l

-- every member of a list: the form that the laws take
abbrev pub Every : {A : Type 0} → (A → Type 0) → List A → Type 0
Every {A} P l = (a : A) → a ∈ l → P a

pub in_tail : {A : Type 0} {a x : A} {xs : List A} → a ∈ (x ∷ xs) → a ≢ x → a ∈ xs
in_tail (here e) n = absurd (n e)
in_tail (there i) n = i

pub shrink : {A : Type 0} {P : A → Type 0} {x : A} {xs : List A} → Every P (x ∷ xs) → Every P xs
shrink h a i = h a (there i)

module _ {A : Type 0} (P : A → Type 0) where
  pub every_nil : Every P []
  every_nil a i = absurd (not-nil i)

  pub every_cons : {x : A} {xs : List A} → P x → Every P xs → Every P (x ∷ xs)
  every_cons h t a (here e) = subst P (sym e) h
  every_cons h t a (there i) = t a i

  pub every_one : {x : A} → P x → Every P (x ∷ [])
  every_one h = every_cons h every_nil

  pub every_append : (xs : List A) {ys : List A} → Every P xs → Every P ys → Every P (xs ++ ys)
  every_append xs f g a i = ⊎_elim (f a) (g a) (append_cases xs i)

-- cases, what is split first: so a tactic in an arm knows its hypothesis
pub split : {A B C : Type 0} → A ⊎ B → (A → C) → (B → C) → C
split (inl a) f g = f a
split (inr b) f g = g b

-- tests as cases
pub same? : (a b : ℕ) → (a ≡ b) ⊎ (a ≢ b)
same? a b = elim (ℕ_discrete a b) [ yes e ↦ inl e | no n ↦ inr n ]

pub on? : (b : Bool) → (b ≡ true) ⊎ (b ≡ false)
on? true = inl refl
on? false = inr refl

pub less? : (a b : ℕ) → (a < b) ⊎ (b ≤ a)
less? a b = elim (dec_lt a b) [ yes e ↦ inl e | no n ↦ inr (omega arith) ]

-- ---- literals

pub neg-neg : (l : ℕ) → neg (neg l) ≡ l
neg-neg l = omega arith

pub neg_inj : (l m : ℕ) → neg l ≡ neg m → l ≡ m
neg_inj l m e = omega arith

pub neg_ne : (l : ℕ) → neg l ≡ l → ⊥
neg_ne l e = omega arith

pub var-neg : (l : ℕ) → var (neg l) ≡ var l
var-neg l = omega arith

pub var_cases : (l m : ℕ) → var l ≡ var m → l ≢ m → l ≡ neg m
var_cases l m e n = omega arith

pub neg_range : (l n : ℕ) → l < 2 * n → neg l < 2 * n
neg_range l n h = omega arith

pub var_range : (l n : ℕ) → l < 2 * n → var l < n
var_range l n h = omega arith
