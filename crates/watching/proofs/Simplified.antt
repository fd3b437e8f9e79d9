-- What `simplify` makes of a sorted clause, literal by literal.
use Rattle.std.specs.Prelude.{◌≡◌, refl, ◌≢◌, ◌⊎◌, Bool, true, false, ◌||◌, List, [], ◌∷◌, ◌++◌, ℕ, ◌≤◌, ◌<◌, eqb}
use Rattle.std.proofs.Common.{inl, inr, eqb-true}
use mathlib.Core.List.Memᴰ.{append_left as in_left}
use mathlib.Core.List.Memᴰ.{head as here}
use Rattle.std.specs.Prelude.{None as none}
use Rattle.std.proofs.lemmas.Bool.{eqb-false}
use Rattle.model.specs.Lit.{neg, undef_lit, is_true, is_false}
use Rattle.model.specs.Intake.{simplify}
use Rattle.lawbase.specs.Basics.{◌∈◌, Every, every_nil, shrink, split}
use Rattle.watching.specs.Sort.{Ascending}
use Rattle.watching.specs.Simplify.{Simplified, Kept, simplified}
use Rattle.watching.proofs.Simplify.{at_skip, or_cases, at_keep, kept_more, or_left, higher, or_right, at_drop}

-- ---- what is kept

-- one literal l more, in front of ls
module _ (values : List ℕ) (last : ℕ) (kept : List ℕ) (l : ℕ) (ls : List ℕ) (h : Kept values last kept) (small : l < undef_lit) where
  at_false : is_true values l ≡ false → l ≢ neg last → (last ∈ kept → last ≤ l) → (b : Bool) → (is_false values l || eqb l last) ≡ b
      → Simplified values kept ls (simplify values last kept ls)
      → (Kept values l (kept ++ (l ∷ [])) → Simplified values (kept ++ (l ∷ [])) ls (simplify values l (kept ++ (l ∷ [])) ls))
      → Simplified values kept (l ∷ ls) (elim b [ true ↦ simplify values last kept ls | false ↦ simplify values l (kept ++ (l ∷ [])) ls ])
  at_false t n le true e skip keep =
      at_skip values last kept l ls h small (split (or_cases (is_false values l) (eqb l last) e) inl (λ z. inr (eqb-true l last z))) (simplify values last kept ls) skip
  at_false t n le false e skip keep =
      at_keep values last kept l ls h small (simplify values l (kept ++ (l ∷ [])) ls)
      (keep
      (kept_more values last kept l ls h small (t, or_left (is_false values l) (eqb l last) e)
      (higher values last kept l ls h small (eqb-false l last (or_right (is_false values l) (eqb l last) e)) n le)))

  at_true : (last ∈ kept → last ≤ l) → (b : Bool) → (is_true values l || eqb l (neg last)) ≡ b
      → Simplified values kept ls (simplify values last kept ls)
      → (Kept values l (kept ++ (l ∷ [])) → Simplified values (kept ++ (l ∷ [])) ls (simplify values l (kept ++ (l ∷ [])) ls))
      → Simplified values kept (l ∷ ls)
      (elim b [
        | true ↦ none
        | false ↦ elim (is_false values l || eqb l last) [ true ↦ simplify values last kept ls | false ↦ simplify values l (kept ++ (l ∷ [])) ls ]
      ])
  at_true le true e skip keep = at_drop values last kept l ls h small (split (or_cases (is_true values l) (eqb l (neg last)) e) inl (λ z. inr (eqb-true l (neg last) z)))
  at_true le false e skip keep =
      at_false (or_left (is_true values l) (eqb l (neg last)) e) (eqb-false l (neg last) (or_right (is_true values l) (eqb l (neg last)) e)) le
      (is_false values l || eqb l last) refl skip keep

pub simplify_simplified : (values : List ℕ) (last : ℕ) (kept ls : List ℕ) → Kept values last kept → Every (λ x. x < undef_lit) ls → Ascending ls
    → (last ∈ kept → Every (λ x. last ≤ x) ls) → Simplified values kept ls (simplify values last kept ls)
unfolding simplify
simplify_simplified values last kept [] h r a g =
    simplified kept h.unset h.distinct (λ x i. i) (λ x i. in_left [] i) (every_nil (λ x. (x ∈ kept) ⊎ (is_false values x ≡ true)))
simplify_simplified values last kept (l ∷ ls) h r a g =
    at_true values last kept l ls h (r l (here refl)) (λ i. g i l (here refl)) (is_true values l || eqb l (neg last)) refl
    (simplify_simplified values last kept ls h (shrink r) a.1 (λ i. shrink (g i)))
    (λ k. simplify_simplified values l (kept ++ (l ∷ [])) ls k (shrink r) a.1 (λ _. a.0))
