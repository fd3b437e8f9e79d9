-- For every number of variables, by one argument: every such clause and every such set comes, in the order stated, none twice and no other.
use Rattle.std.specs.Prelude.{◌≡◌, ◌≢◌, ◌↔◌, Bool, true, false, ◌&&◌, not, length, eqb}
use Rattle.std.proofs.Math.Path.{refl}
use Rattle.std.proofs.Common.{ap, sym, ◌∙◌, true≢false, eq-eqb, ne_eqb}
use mathlib.Core.List.Memᴰ.{head as here}
use mathlib.Core.List.Memᴰ.{tail as there}
use mathlib.Core.List.{List, [], ◌∷◌, ◌++◌}
use Prim.Native.Nat.{ℕ, zero, suc, ◌+◌, ◌*◌, ◌≤◌, ◌<◌}
use native.Mathlib.Omega.{arith}
use Rattle.model.specs.Lit.{var}
use Rattle.lawbase.specs.Basics.{◌∈◌, Every, every_nil, every_cons, shrink, split, on?, same?}
use Rattle.smallbooks.specs.Choose.{of_sizes, Ascending, Before}
use Rattle.smallbooks.proofs.Choose.{Once, Asymmetric, ascending_once, before_asymmetric, sizes_exactly, sizes_ordered}
use Rattle.smallbooks.specs.Books.{upward, literals, apart, filter, clauses, sets}
use Rattle.smallbooks.specs.Sets.{Distinct, Clause}

-- ---- the literals

pub upward_from : (a n : ℕ) → Every (λ x. a ≤ x) (upward a n)
unfolding upward
upward_from a zero = every_nil (λ x. a ≤ x)
upward_from a (suc n) = every_cons (λ x. a ≤ x) (omega arith) (λ x i. omega (arith, upward_from (suc a) n x i))

upward_below : (a n : ℕ) → Every (λ x. x < a + n) (upward a n)
unfolding upward
upward_below a zero = every_nil (λ x. x < a + 0)
upward_below a (suc n) = every_cons (λ x. x < a + suc n) (omega arith) (λ x i. omega (arith, upward_below (suc a) n x i))

upward_in : (a n x : ℕ) → a ≤ x → x < a + n → x ∈ upward a n
unfolding upward
upward_in a zero x h l = absurd (omega arith)
upward_in a (suc n) x h l = split (same? x a) (λ e. here e) (λ ne. there (upward_in (suc a) n x (omega arith) (omega arith)))

upward_ascending : (a n : ℕ) → Ascending ◌<◌ (upward a n)
unfolding upward
upward_ascending a zero = tt
upward_ascending a (suc n) = ((λ x i. omega (arith, upward_from (suc a) n x i)), upward_ascending (suc a) n)

less_asymmetric : Asymmetric ◌<◌
less_asymmetric x y h g = omega arith

-- ---- what a filter keeps

module _ {A : Type 0} (p : A → Bool) where
  filter_cases : (P : List A → Type 0) (x : A) (xs : List A) → (p x ≡ true → P (x ∷ filter p xs)) → (p x ≡ false → P (filter p xs)) → P (filter p (x ∷ xs))
  unfolding filter
  filter_cases P x xs f g = split (on? (p x)) (λ e. rw (e, filter) (f e)) (λ e. rw (e, filter) (g e))

  pub filter-append : (xs ys : List A) → filter p (xs ++ ys) ≡ filter p xs ++ filter p ys
  unfolding filter
  filter-append [] ys = refl
  filter-append (x ∷ xs) ys =
      let r = filter-append xs ys in
      filter_cases (λ l. filter p (x ∷ xs ++ ys) ≡ l ++ filter p ys) x xs
      (λ e. rw (e, filter) (ap (λ (l : List A). x ∷ l) r))
      (λ e. rw (e, filter) r)

  filter_in : (x : A) (xs : List A) → x ∈ xs → p x ≡ true → x ∈ filter p xs
  filter_in x [] i a = elim i [ ]
  filter_in x (y ∷ xs) (here e) a = filter_cases (λ l. x ∈ l) y xs (λ _. here e) (λ f. absurd (true≢false (sym a ∙ ap p e ∙ f)))
  filter_in x (y ∷ xs) (there i) a = filter_cases (λ l. x ∈ l) y xs (λ _. there (filter_in x xs i a)) (λ _. filter_in x xs i a)

  filter_only : (xs : List A) → Every (λ x. (x ∈ xs) × (p x ≡ true)) (filter p xs)
  unfolding filter
  filter_only [] = every_nil (λ x. (x ∈ []) × (p x ≡ true))
  filter_only (y ∷ xs) =
      let r = filter_only xs in
      filter_cases (Every (λ x. (x ∈ (y ∷ xs)) × (p x ≡ true))) y xs
      (λ e. every_cons (λ x. (x ∈ (y ∷ xs)) × (p x ≡ true)) (here refl, e) (λ x i. (there (r x i).0, (r x i).1)))
      (λ e x i. (there (r x i).0, (r x i).1))

  filter_ascending : (R : A → A → Type 0) (xs : List A) → Ascending R xs → Ascending R (filter p xs)
  unfolding filter
  filter_ascending R [] a = tt
  filter_ascending R (y ∷ xs) a =
      let r = filter_ascending R xs a.1 in
      filter_cases (Ascending R) y xs (λ e. ((λ x i. a.0 x (filter_only xs x i).0), r)) (λ e. r)

-- ---- no variable twice

and_true : (a b : Bool) → (a && b) ≡ true → (a ≡ true) × (b ≡ true)
and_true true b e = (refl, e)
and_true false b e = absurd (true≢false (sym e))

different : (l m : ℕ) → not (eqb (var l) (var m)) ≡ true → var l ≢ var m
different l m e q = true≢false (sym e ∙ ap not (eq-eqb (var l) (var m) q))

-- variables upward
abbrev Rising : List ℕ → Type 0
Rising c = Ascending (λ l m. var l < var m) c

apart_rising : (c : List ℕ) → Ascending ◌<◌ c → apart c ≡ true → Rising c
unfolding apart
apart_rising [] a e = tt
apart_rising (l ∷ []) a e = (every_nil (λ m. var l < var m), tt)
apart_rising (l ∷ m ∷ ls) a e =
    let h = and_true (not (eqb (var l) (var m))) (apart (m ∷ ls)) e in
    let r = apart_rising (m ∷ ls) a.1 h.1 in
    let d = different l m h.0 in
    let b : var l < var m = omega (arith, a.0 m (here refl), d) in
    (every_cons (λ n. var l < var n) b (λ n i. omega (arith, b, r.0 n i)), r)

distinct_apart : (c : List ℕ) → Distinct c → apart c ≡ true
unfolding apart
distinct_apart [] d = refl
distinct_apart (l ∷ []) d = refl
distinct_apart (l ∷ m ∷ ls) d =
    ap (λ (b : Bool). not b && apart (m ∷ ls)) (ne_eqb (var l) (var m) (d.0 m (here refl))) ∙ distinct_apart (m ∷ ls) d.1

rising_distinct : (c : List ℕ) → Rising c → Distinct c
rising_distinct [] r = tt
rising_distinct (l ∷ ls) r = ((λ m i e. omega (arith, r.0 m i, e)), rising_distinct ls r.1)

-- so there are at most as many literals as variables
rising_short : (v : ℕ) (c : List ℕ) (a : ℕ) → Rising c → Every (λ l. a ≤ var l) c → Every (λ l. l < 2 * v) c → a ≤ v → length c + a ≤ v
rising_short v [] a r f g h = omega arith
rising_short v (l ∷ ls) a r f g h =
    let k = rising_short v ls (suc (var l)) r.1 r.0 (shrink g) (omega (arith, g l (here refl))) in
    omega (arith, k, f l (here refl))

-- ---- the clauses

module _ (v : ℕ) where
  literals_ascending : Ascending ◌<◌ (literals v)
  unfolding literals
  literals_ascending = upward_ascending 0 (2 * v)

  abbrev Taken : List ℕ → Type 0
  Taken c = Ascending ◌<◌ c × Every (λ l. l ∈ literals v) c × (1 ≤ length c) × (length c < 1 + v)

  clause_of : (c : List ℕ) → Taken c → apart c ≡ true → Clause v c
  unfolding literals
  clause_of c t e = record {
    upward = t.0;
    below = λ l i. omega (arith, upward_below 0 (2 * v) l (t.1 l i));
    once = rising_distinct c (apart_rising c t.0 e);
    some = t.2;
  }

  taken_of : (c : List ℕ) → Clause v c → Taken c
  unfolding literals
  taken_of c h = (
    h.upward,
    (λ l i. upward_in 0 (2 * v) l (omega arith) (omega (arith, h.below l i))),
    h.some,
    omega (arith, rising_short v c 0 (apart_rising c h.upward (distinct_apart c h.once)) (λ l i. omega arith) h.below (omega arith)),
  )

  -- Every such clause comes, and no other.
  pub clauses_exactly : (c : List ℕ) → (c ∈ clauses v) ↔ Clause v c
  unfolding clauses
  clauses_exactly c = (
    (λ i.
        let x = filter_only apart (of_sizes 1 v (literals v)) c i in
        clause_of c ((sizes_exactly ◌<◌ less_asymmetric (literals v) literals_ascending 1 v c).0 x.0) x.1),
    λ h. filter_in apart c (of_sizes 1 v (literals v)) ((sizes_exactly ◌<◌ less_asymmetric (literals v) literals_ascending 1 v c).1 (taken_of c h)) (distinct_apart c h.once),
  )

  pub clauses_short : Every (λ c. length c ≤ v) (clauses v)
  unfolding clauses
  clauses_short c i =
      let x = filter_only apart (of_sizes 1 v (literals v)) c i in
      omega (arith, ((sizes_exactly ◌<◌ less_asymmetric (literals v) literals_ascending 1 v c).0 x.0).3)

  -- They come by length, then by literal numbers.
  pub clauses-ordered : Ascending (Before ◌<◌) (clauses v)
  unfolding clauses
  clauses-ordered = filter_ascending apart (Before ◌<◌) (of_sizes 1 v (literals v)) (sizes_ordered ◌<◌ less_asymmetric (literals v) literals_ascending 1 v)

  clause_asymmetric : Asymmetric (Before ◌<◌)
  clause_asymmetric = before_asymmetric ◌<◌ less_asymmetric

  pub clauses_once : Once (clauses v)
  clauses_once = ascending_once (Before ◌<◌) clause_asymmetric (clauses v) clauses-ordered

  -- ---- the sets

  -- at most three such clauses, in their order; so none twice
  pub record Book (s : List (List ℕ)) : Type 0 where
    pub ordered : Ascending (Before ◌<◌) s
    pub rules : Every (Clause v) s
    pub most : length s ≤ 3

  -- Every such set comes, and no other.
  pub sets_exactly : (s : List (List ℕ)) → (s ∈ sets v) ↔ Book s
  unfolding sets
  sets_exactly s =
      let x = sizes_exactly (Before ◌<◌) clause_asymmetric (clauses v) clauses-ordered 0 4 s in (
        (λ i. let t = x.0 i in record { ordered = t.0; rules = λ c j. (clauses_exactly c).0 (t.1 c j); most = omega (arith, t.3) }),
        λ b. x.1 (b.ordered, (λ c j. (clauses_exactly c).1 (b.rules c j)), omega arith, omega (arith, b.most)),
      )

  -- They come by size, then by their clauses.
  pub sets-ordered : Ascending (Before (Before ◌<◌)) (sets v)
  unfolding sets
  sets-ordered = sizes_ordered (Before ◌<◌) clause_asymmetric (clauses v) clauses-ordered 0 4

  -- None comes twice.
  pub sets_once : Once (sets v)
  sets_once = ascending_once (Before (Before ◌<◌)) (before_asymmetric (Before ◌<◌) clause_asymmetric) (sets v) sets-ordered
