-- Rows and clauses, and sets of literals closed under unit consequences. A row is a function here: variable to 0 (true) or 1 (false).
use Rattle.std.specs.Prelude.{◌≡◌, refl, ◌≢◌, ◌⊎◌, Bool, true, false, List, [], ◌∷◌, ◌++◌, ℕ, ◌<◌, eqb}
use Rattle.std.proofs.Common.{ap, subst, inl, inr, ⊎_elim, arith, eqb-true, eq-eqb}
use mathlib.Core.List.Memᴰ.{append_left as in_left}
use mathlib.Core.List.Memᴰ.{append_right as in_right}
use mathlib.Core.List.Memᴰ.{head as here}
use mathlib.Core.List.Memᴰ.{not-nil}
use mathlib.Core.List.Memᴰ.{tail as there}
use Rattle.std.proofs.lemmas.Bool.{eqb-false}
use Rattle.model.specs.Lit.{var, sign, neg}
use Rattle.lawbase.specs.Basics.{◌∈◌, Every, every_nil, every_cons, same?, var-neg}

abbrev pub Row : (ℕ → ℕ) → Type 0
Row ρ = (v : ℕ) → ρ v < 2

unfoldable pub sat : (ℕ → ℕ) → ℕ → Bool
sat ρ l = eqb (ρ (var l)) (sign l)

abbrev pub Sat : (ℕ → ℕ) → List ℕ → Type 0
Sat ρ C = (l : ℕ) × (l ∈ C) × (sat ρ l ≡ true)

abbrev pub Models : (ℕ → ℕ) → List (List ℕ) → Type 0
Models ρ F = (C : List ℕ) → C ∈ F → Sat ρ C

abbrev pub Follows : List (List ℕ) → List ℕ → Type 0
Follows F C = (ρ : ℕ → ℕ) → Row ρ → Models ρ F → Sat ρ C

pub sat-neg : (ρ : ℕ → ℕ) → Row ρ → (l : ℕ) → sat ρ l ≡ false → sat ρ (neg l) ≡ true
unfolding sat
sat-neg ρ r l h =
    let n : ρ (var l) ≢ sign l = eqb-false (ρ (var l)) (sign l) h in
    let v : ρ (var (neg l)) ≡ ρ (var l) = ap ρ (var-neg l) in
    eq-eqb (ρ (var (neg l))) (sign (neg l)) (omega (arith, r (var l)))

pub sat_not_both : (ρ : ℕ → ℕ) (l : ℕ) → sat ρ l ≡ true → sat ρ (neg l) ≡ true → ⊥
unfolding sat
sat_not_both ρ l h k =
    let v : ρ (var (neg l)) ≡ ρ (var l) = ap ρ (var-neg l) in
    omega (arith, eqb-true (ρ (var l)) (sign l) h, eqb-true (ρ (var (neg l))) (sign (neg l)) k)

pub models_left : (ρ : ℕ → ℕ) (F G : List (List ℕ)) → Models ρ (F ++ G) → Models ρ F
models_left ρ F G m C i = m C (in_left G i)

pub models_right : (ρ : ℕ → ℕ) (F G : List (List ℕ)) → Models ρ (F ++ G) → Models ρ G
models_right ρ F G m C i = m C (in_right F i)

pub follows_weaken : (F : List (List ℕ)) (C D : List ℕ) → Every (λ l. l ∈ D) C → Follows F C → Follows F D
follows_weaken F C D s f ρ r m =
    let k = f ρ r m in
    (k.0, s k.0 k.1, k.2)

pub follows_empty : (F : List (List ℕ)) → Follows F [] → (ρ : ℕ → ℕ) → Row ρ → Models ρ F → ⊥
follows_empty F f ρ r m = not-nil (f ρ r m).1

-- ---- sets closed under unit consequences

-- where all literals of the clause but one are false in S, S holds that one; not all are false in S
pub record Respects (S : ℕ → Bool) (C : List ℕ) : Type 0 where
  pub unit : (l : ℕ) → l ∈ C → ((m : ℕ) → m ∈ C → m ≢ l → S (neg m) ≡ true) → S l ≡ true
  pub clash : Every (λ m. S (neg m) ≡ true) C → ⊥

pub record Closed (S : ℕ → Bool) (F : List (List ℕ)) : Type 0 where
  pub one : (l : ℕ) → S l ≡ true → S (neg l) ≡ true → ⊥
  pub respects : Every (Respects S) F

-- what a learnt clause is to be: no closed set falsifies it (reverse unit propagation)
abbrev pub Rup : List (List ℕ) → List ℕ → Type 0
Rup F C = (S : ℕ → Bool) → Closed S F → Every (λ l. S (neg l) ≡ true) C → ⊥

-- clauses learnt, newest first, each from F and those before it
abbrev pub Log : List (List ℕ) → List (List ℕ) → Type 0
Log F [] = Unit
Log F (C ∷ G) = Rup (G ++ F) C × Log F G

-- some member passes a test, or all fail
pub some_or_none : (S : ℕ → Bool) (C : List ℕ) → ((l : ℕ) × (l ∈ C) × (S l ≡ true)) ⊎ Every (λ l. S l ≡ false) C
some_or_none S [] = inr (every_nil (λ l. S l ≡ false))
some_or_none S (x ∷ C) = go (S x) refl (some_or_none S C)
  where
    go : (b : Bool) → S x ≡ b → ((l : ℕ) × (l ∈ C) × (S l ≡ true)) ⊎ Every (λ l. S l ≡ false) C
        → ((l : ℕ) × (l ∈ (x ∷ C)) × (S l ≡ true)) ⊎ Every (λ l. S l ≡ false) (x ∷ C)
    go true e _ = inl (x, here refl, e)
    go false e (inl k) = inl (k.0, there k.1, k.2)
    go false e (inr k) = inr (every_cons (λ l. S l ≡ false) e k)

pub row_closed : (ρ : ℕ → ℕ) (F : List (List ℕ)) → Row ρ → Models ρ F → Closed (sat ρ) F
row_closed ρ F r m =
    record {
      one = sat_not_both ρ;
      respects = λ C i.
          record {
            unit = λ l il h.
                let k = m C i in
                ⊎_elim
                (λ e. subst (λ x. sat ρ x ≡ true) e k.2)
                (λ n. absurd (sat_not_both ρ k.0 k.2 (h k.0 k.1 n)))
                (same? k.0 l);
            clash = λ h.
                let k = m C i in
                sat_not_both ρ k.0 k.2 (h k.0 k.1);
          };
    }

pub rup_follows : (F : List (List ℕ)) (C : List ℕ) → Rup F C → Follows F C
rup_follows F C u ρ r m =
    ⊎_elim (λ k. k) (λ n. absurd (u (sat ρ) (row_closed ρ F r m) (λ l i. sat-neg ρ r l (n l i)))) (some_or_none (sat ρ) C)

pub log_models : (F G : List (List ℕ)) → Log F G → (ρ : ℕ → ℕ) → Row ρ → Models ρ F → Models ρ (G ++ F)
log_models F [] g ρ r m = m
log_models F (C ∷ G) g ρ r m =
    let k = log_models F G g.1 ρ r m in
    every_cons (Sat ρ) (rup_follows (G ++ F) C g.0 ρ r k) k
