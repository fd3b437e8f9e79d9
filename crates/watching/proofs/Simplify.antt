-- What `simplify` keeps of a sorted clause.
use Rattle.std.specs.Prelude.{◌≡◌, refl, ◌≢◌, ◌⊎◌, Bool, true, false, ◌||◌, List, [], ◌∷◌, ◌++◌, ℕ, ◌≤◌, ◌<◌}
use Rattle.std.proofs.Common.{sym, subst, inl, inr, append_assoc, arith}
use mathlib.Core.List.Memᴰ.{append_cases}
use mathlib.Core.List.Memᴰ.{append_left as in_left}
use mathlib.Core.List.Memᴰ.{append_right as in_right}
use mathlib.Core.List.Memᴰ.{head as here}
use mathlib.Core.List.Memᴰ.{not-nil}
use mathlib.Core.List.Memᴰ.{tail as there}
use Rattle.std.specs.Prelude.{Option, None as none}
use Rattle.model.specs.Lit.{var, neg, undef_lit, is_true, is_false}
use Rattle.lawbase.specs.Basics.{◌∈◌, Every, every_nil, every_cons, every_append, every_one, shrink, split}
use Rattle.lawbase.specs.WellFormed.{Distinct}
use Rattle.watching.specs.Simplify.{Simplified, dropped, simplified, Valueless, Kept}

-- ---- what is kept

distinct_snoc : (l : ℕ) (xs : List ℕ) → Distinct xs → Every (λ x. var x ≢ var l) xs → Distinct (xs ++ (l ∷ []))
distinct_snoc l [] d h = (every_nil (λ m. var m ≢ var l), tt)
distinct_snoc l (x ∷ xs) d h =
    (every_append (λ m. var m ≢ var x) xs d.0 (every_one (λ m. var m ≢ var x) (λ e. h x (here refl) (sym e))), distinct_snoc l xs d.1 (shrink h))

pub or_cases : (a b : Bool) → (a || b) ≡ true → (a ≡ true) ⊎ (b ≡ true)
or_cases true b h = inl refl
or_cases false b h = inr h

pub or_left : (a b : Bool) → (a || b) ≡ false → a ≡ false
or_left true b h = h
or_left false b h = refl

pub or_right : (a b : Bool) → (a || b) ≡ false → b ≡ false
or_right true true h = h
or_right true false h = refl
or_right false b h = h

-- one literal l more, in front of ls
module _ (values : List ℕ) (last : ℕ) (kept : List ℕ) (l : ℕ) (ls : List ℕ) (h : Kept values last kept) (small : l < undef_lit) where
  -- a literal that is the last one or its negation has it among those kept
  is_kept : (l ≡ last) ⊎ (l ≡ neg last) → last ∈ kept
  is_kept w = split h.end (λ i. i) (λ e. absurd (split w (λ z. (omega (arith, z, e.1, small))) (λ z. (omega (arith, z, e.1, small)))))

  longer : {x : ℕ} → x ∈ (kept ++ ls) → x ∈ (kept ++ (l ∷ ls))
  longer i = split (append_cases kept i) (λ j. in_left (l ∷ ls) j) (λ j. in_right kept (there j))

  pub at_drop : (is_true values l ≡ true) ⊎ (l ≡ neg last) → Simplified values kept (l ∷ ls) none
  at_drop w =
      split w (λ t. dropped l (here refl) (inl t))
      (λ e. dropped l (here refl) (inr (in_left (l ∷ ls) (subst (λ x. x ∈ kept) (omega arith) (is_kept (inr e))))))

  pub at_skip : (is_false values l ≡ true) ⊎ (l ≡ last) → (o : Option (List ℕ)) → Simplified values kept ls o → Simplified values kept (l ∷ ls) o
  at_skip w o (dropped x i c) = dropped x (there i) (split c inl (λ j. inr (longer j)))
  at_skip w o (simplified k u d a m c) =
      simplified k u d a (λ x i. longer (m x i))
      (every_cons (λ x. (x ∈ k) ⊎ (is_false values x ≡ true))
      (split w inr (λ e. inl (a l (subst (λ x. x ∈ kept) (sym e) (is_kept (inl e)))))) c)

  pub at_keep : (o : Option (List ℕ)) → Simplified values (kept ++ (l ∷ [])) ls o → Simplified values kept (l ∷ ls) o
  at_keep o (dropped x i c) = dropped x (there i) (split c inl (λ j. inr (subst (λ m. neg x ∈ m) (append_assoc kept (l ∷ []) ls) j)))
  at_keep o (simplified k u d a m c) =
      simplified k u d (λ x i. a x (in_left (l ∷ []) i)) (λ x i. subst (λ n. x ∈ n) (append_assoc kept (l ∷ []) ls) (m x i))
      (every_cons (λ x. (x ∈ k) ⊎ (is_false values x ≡ true)) (inl (a l (in_right kept (here refl)))) c)

  -- its variable is higher than those before
  pub higher : l ≢ last → l ≢ neg last → (last ∈ kept → last ≤ l) → Every (λ x. var x < var l) kept
  higher n m le x i =
      split h.end
      (λ j. (omega (arith, h.highest x i, n, m, le j)))
      (λ e. absurd (not-nil (subst (λ y. x ∈ y) e.0 i)))

  pub kept_more : Valueless values l → Every (λ x. var x < var l) kept → Kept values l (kept ++ (l ∷ []))
  kept_more u g =
      record {
        unset = every_append (Valueless values) kept h.unset (every_one (Valueless values) u);
        distinct = distinct_snoc l kept h.distinct (λ x i e. (omega (arith, g x i, e)));
        highest = every_append (λ x. var x ≤ var l) kept (λ x i. (omega (arith, g x i))) (every_one (λ x. var x ≤ var l) (omega arith));
        end = inl (in_right kept (here refl));
      }
