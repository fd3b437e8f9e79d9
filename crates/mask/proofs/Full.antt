-- No mask is a mask with every bit.
use Rattle.std.specs.Prelude.{◌≡◌, ◌||◌, eqb, length}
use Rattle.std.proofs.Math.Path.{refl, ap}
use Rattle.std.proofs.Common.{◌∙◌}
use Rattle.std.specs.Prelude.{Option, None as none, Some as some}
use mathlib.Core.List.{List, [], ◌∷◌, ◌++◌}
use Prim.Native.Nat.{ℕ, suc, zero}
use Rattle.model.specs.Lit.{no_reason}
use Rattle.model.specs.State.{Store, VarState, level_lit, reason_lit, reason_rest}
use Rattle.model.specs.Minimise.{is_seen, Tracing, push_reason, lit_redundant, drop_redundant}
use Rattle.lawbase.specs.Basics.{split, on?}
use Rattle.learning.specs.Trace.{put, then}
use Rattle.mask.specs.Unmasked.{push_reason_unmasked, lit_redundant_unmasked, drop_redundant_unmasked}
use Rattle.mask.specs.Bits.{full}
use Rattle.mask.proofs.Bits.{full_passes}

then_same : {A B : Type 0} (o : Option A) (f g : A → Option B) → ((a : A) → f a ≡ g a) → then o f ≡ then o g
then_same none f g h = refl
then_same (some a) f g h = h a

branches_same : (o : Option (List ℕ)) {x y : List ℕ} {f g : List ℕ → List ℕ} → x ≡ y → ((k : List ℕ) → f k ≡ g k)
    → ◌≡◌ {A = List ℕ} (elim o [ none ↦ x | some k ↦ f k ]) (elim o [ none ↦ y | some k ↦ g k ])
branches_same none h e = h
branches_same (some k) h e = e k

module _ (vs : VarState) where
  push_full : (ls : List ℕ) (t : Tracing) → push_reason_unmasked vs ls t ≡ push_reason vs full ls t
  unfolding push_reason_unmasked push_reason
  push_full [] t = refl
  push_full (l ∷ ls) t = split (on? (eqb (level_lit vs l) 0 || is_seen t.seen l))
      (λ e. rw (e, push_reason_unmasked, push_reason) (push_full ls t))
      (λ e. split (on? (eqb (reason_lit vs l) no_reason))
      (λ c. rw (e, c, push_reason_unmasked, push_reason))
      (λ c. rw (e, c, full_passes vs l, push_reason_unmasked, push_reason) (push_full ls (put l t))))

  lit_full : (st : Store) (turns : ℕ) (stack m : List ℕ)
      → lit_redundant_unmasked st vs turns (record { stack = stack; seen = m }) ≡ lit_redundant st vs full turns (record { stack = stack; seen = m })
  unfolding lit_redundant_unmasked lit_redundant
  lit_full st zero stack m = refl
  lit_full st (suc turns) [] m = refl
  lit_full st (suc turns) (q ∷ stack) m =
      let now : Tracing = record { stack = stack; seen = m } in
      ap (λ (o : Option Tracing). then o (lit_redundant_unmasked st vs turns)) (push_full (reason_rest st vs q) now)
      ∙ then_same (push_reason vs full (reason_rest st vs q) now) (lit_redundant_unmasked st vs turns) (lit_redundant st vs full turns)
      (λ b. lit_full st turns b.stack b.seen)

  pub drop_full : (st : Store) (kept ls m : List ℕ) → drop_redundant_unmasked st vs kept ls m ≡ drop_redundant st vs full kept ls m
  unfolding drop_redundant_unmasked drop_redundant
  drop_full st kept [] m = refl
  drop_full st kept (l ∷ ls) m = split (on? (eqb (reason_lit vs l) no_reason))
      (λ c. rw (c, drop_redundant_unmasked, drop_redundant) (drop_full st (kept ++ (l ∷ [])) ls m))
      (λ c. rw (c, drop_redundant_unmasked, drop_redundant, lit_full st (suc (length m)) (l ∷ []) m)
      (branches_same (lit_redundant st vs full (suc (length m)) (record { stack = l ∷ []; seen = m })) (drop_full st (kept ++ (l ∷ [])) ls m)
      (λ k. drop_full st kept ls k)))
