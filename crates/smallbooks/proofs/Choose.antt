-- Members taken out of a list: k-combinations, in the list's order. All of them come, in order, none twice and no other.
use Rattle.std.specs.Prelude.{◌≡◌, ◌≢◌, ◌↔◌, ◌⊎◌, length}
use Rattle.std.proofs.Math.Path.{refl, ap, sym, subst}
use Rattle.std.proofs.Common.{◌∙◌, inl, inr, zero-add, add-zero}
use mathlib.Core.List.Memᴰ.{append_left as in_left}
use mathlib.Core.List.Memᴰ.{append_right as in_right}
use mathlib.Core.List.Memᴰ.{head as here}
use mathlib.Core.List.Memᴰ.{not-nil}
use mathlib.Core.List.Memᴰ.{tail as there}
use mathlib.Core.List.{List, [], ◌∷◌, ◌++◌, map, append_assoc, append-nil}
use Prim.Native.Nat.{ℕ, zero, suc, ◌+◌, ◌≤◌, ◌<◌}
use native.Mathlib.Omega.{arith}
use Rattle.lawbase.specs.Basics.{◌∈◌, Every, every_nil, every_cons, every_append, shrink, split, same?}
use Rattle.smallbooks.specs.Choose.{of_sizes, combinations, Ascending, Lex, first, later, Before, shorter, as_long}

module _ {A : Type 0} where
  -- the same, cut behind the first n sizes
  pub sizes_split : (k n m : ℕ) (xs : List A) → of_sizes k (n + m) xs ≡ of_sizes k n xs ++ of_sizes (k + n) m xs
  unfolding of_sizes
  sizes_split k zero m xs = ap (λ (i : ℕ). of_sizes k i xs) (zero-add m) ∙ ap (λ (i : ℕ). of_sizes i m xs) (sym (add-zero k))
  sizes_split k (suc n) m xs =
      let e : suc n + m ≡ suc (n + m) = omega arith in
      let f : suc k + n ≡ k + suc n = omega arith in
      ap (λ (i : ℕ). of_sizes k i xs) e ∙ ap (λ (l : List (List A)). combinations k xs ++ l) (sizes_split (suc k) n m xs)
      ∙ sym (append_assoc (combinations k xs) (of_sizes (suc k) n xs) (of_sizes (suc k + n) m xs))
      ∙ ap (λ (i : ℕ). (combinations k xs ++ of_sizes (suc k) n xs) ++ of_sizes i m xs) f

  pub sizes_last : (k n : ℕ) (xs : List A) → of_sizes k (n + 1) xs ≡ of_sizes k n xs ++ combinations (k + n) xs
  unfolding of_sizes
  sizes_last k n xs = sizes_split k n 1 xs ∙ ap (λ (l : List (List A)). of_sizes k n xs ++ l) (append-nil (combinations (k + n) xs))

  -- ---- what is taken

  -- c has some of the members of xs, in the same order
  data Sub : List A → List A → Type 0 where
    end : {xs : List A} → Sub [] xs
    keep : {x : A} {c xs : List A} → Sub c xs → Sub (x ∷ c) (x ∷ xs)
    skip : {x y : A} {c xs : List A} → Sub (y ∷ c) xs → Sub (y ∷ c) (x ∷ xs)

  in_map : (x : A) (c : List A) (cs : List (List A)) → c ∈ cs → (x ∷ c) ∈ map (λ d. x ∷ d) cs
  in_map x c [] i = elim i [ ]
  in_map x c (d ∷ cs) (here e) = here (ap (λ (y : List A). x ∷ y) e)
  in_map x c (d ∷ cs) (there i) = there (in_map x c cs i)

  from_map : (x : A) (c : List A) (cs : List (List A)) → c ∈ map (λ d. x ∷ d) cs → (d : List A) × (d ∈ cs) × (c ≡ x ∷ d)
  from_map x c [] i = absurd (not-nil i)
  from_map x c (d ∷ cs) (here e) = (d, here refl, e)
  from_map x c (d ∷ cs) (there i) = let r = from_map x c cs i in (r.0, there r.1, r.2)

  taken : (c xs : List A) → Sub c xs → c ∈ combinations (length c) xs
  unfolding combinations
  taken c xs end = here refl
  taken c xs (keep {x = x} {c = d} {xs = ys} s) = in_left (combinations (suc (length d)) ys) (in_map x d (combinations (length d) ys) (taken d ys s))
  taken c xs (skip {x = x} {y = y} {c = d} {xs = ys} s) = in_right (map (λ e. x ∷ e) (combinations (length d) ys)) (taken (y ∷ d) ys s)

  abbrev Of : ℕ → List A → List A → Type 0
  Of k xs c = Sub c xs × (length c ≡ k)

  skip_of : (k : ℕ) (x : A) (xs c : List A) → Of (suc k) xs c → Of (suc k) (x ∷ xs) c
  skip_of k x xs [] h = absurd (omega (arith, h.1))
  skip_of k x xs (y ∷ c) h = (skip h.0, h.1)

  takes : (k : ℕ) (xs : List A) → Every (Of k xs) (combinations k xs)
  unfolding combinations
  takes zero xs = every_cons (Of 0 xs) (end, refl) (every_nil (Of 0 xs))
  takes (suc k) [] = every_nil (Of (suc k) [])
  takes (suc k) (x ∷ xs) =
      every_append (Of (suc k) (x ∷ xs)) (map (λ d. x ∷ d) (combinations k xs))
      (λ c i.
      let r = from_map x c (combinations k xs) i in
      let o = takes k xs r.0 r.1 in
      subst (Of (suc k) (x ∷ xs)) (sym r.2) (keep o.0, ap suc o.1))
      (λ c i. skip_of k x xs c (takes (suc k) xs c i))

  -- how many members are taken
  pub combinations_size : (k : ℕ) (xs : List A) → Every (λ c. length c ≡ k) (combinations k xs)
  combinations_size k xs c i = (takes k xs c i).1

  sub_in : (c xs : List A) → Sub c xs → Every (λ x. x ∈ xs) c
  sub_in c xs end = every_nil (λ x. x ∈ xs)
  sub_in c xs (keep {x = x} {c = d} {xs = ys} s) = every_cons (λ y. y ∈ (x ∷ ys)) (here refl) (λ y i. there (sub_in d ys s y i))
  sub_in c xs (skip {x = x} {y = y} {c = d} {xs = ys} s) = λ z i. there (sub_in (y ∷ d) ys s z i)

  pub combinations_in : (k : ℕ) (xs : List A) → Every (λ c. Every (λ x. x ∈ xs) c) (combinations k xs)
  combinations_in k xs c i = sub_in c xs (takes k xs c i).0

  sizes_taken : (c xs : List A) → Sub c xs → (k n : ℕ) → k ≤ length c → length c < k + n → c ∈ of_sizes k n xs
  unfolding of_sizes
  sizes_taken c xs s k zero h l = absurd (omega arith)
  sizes_taken c xs s k (suc n) h l = split (same? (length c) k)
      (λ e. in_left (of_sizes (suc k) n xs) (subst (λ (j : ℕ). c ∈ combinations j xs) e (taken c xs s)))
      (λ ne. in_right (combinations k xs) (sizes_taken c xs s (suc k) n (omega arith) (omega arith)))

  abbrev Between : ℕ → ℕ → List A → List A → Type 0
  Between k n xs c = Sub c xs × (k ≤ length c) × (length c < k + n)

  sizes_take : (k n : ℕ) (xs : List A) → Every (Between k n xs) (of_sizes k n xs)
  unfolding of_sizes
  sizes_take k zero xs = every_nil (Between k 0 xs)
  sizes_take k (suc n) xs =
      every_append (Between k (suc n) xs) (combinations k xs)
      (λ c i. let o = takes k xs c i in (o.0, omega (arith, o.1), omega (arith, o.1)))
      (λ c i. let o = sizes_take (suc k) n xs c i in (o.0, omega (arith, o.1), omega (arith, o.2)))

  -- ---- order

  -- none is there twice
  abbrev pub Once : List A → Type 0
  Once [] = Unit {0}
  Once (x ∷ xs) = (x ∈ xs → ⊥) × Once xs

  abbrev pub Asymmetric : (A → A → Type 0) → Type 0
  Asymmetric R = (x y : A) → R x y → R y x → ⊥

pub ascending_once : {A : Type 0} (R : A → A → Type 0) → Asymmetric R → (xs : List A) → Ascending R xs → Once xs
ascending_once R asym [] a = tt
ascending_once R asym (x ∷ xs) a = ((λ i. asym x x (a.0 x i) (a.0 x i)), ascending_once R asym xs a.1)

pub ascending_append : {A : Type 0} (R : A → A → Type 0) (xs ys : List A) → Ascending R xs → Ascending R ys → Every (λ x. Every (R x) ys) xs → Ascending R (xs ++ ys)
ascending_append R [] ys f g h = g
ascending_append R (x ∷ xs) ys f g h = (every_append (R x) xs f.0 (h x (here refl)), ascending_append R xs ys f.1 g (shrink h))

-- an order by which the members ascend
module _ {A : Type 0} (R : A → A → Type 0) (asym : Asymmetric R) where
  -- the same as Lex, by recursion over both lists
  abbrev Lexed : List A → List A → Type 0
  Lexed [] d = ⊥
  Lexed (x ∷ c) [] = ⊥
  Lexed (x ∷ c) (y ∷ d) = R x y ⊎ ((x ≡ y) × Lexed c d)

  lexed : {c d : List A} → Lex R c d → Lexed c d
  lexed (first h) = inl h
  lexed (later h) = inr (refl, lexed h)

  lexed_asymmetric : (c d : List A) → Lexed c d → Lexed d c → ⊥
  lexed_asymmetric [] d h g = h
  lexed_asymmetric (x ∷ c) [] h g = h
  lexed_asymmetric (x ∷ c) (y ∷ d) (inl h) (inl g) = asym x y h g
  lexed_asymmetric (x ∷ c) (y ∷ d) (inl h) (inr g) = let k = subst (R x) g.0 h in asym x x k k
  lexed_asymmetric (x ∷ c) (y ∷ d) (inr h) (inl g) = let k = subst (R y) h.0 g in asym y y k k
  lexed_asymmetric (x ∷ c) (y ∷ d) (inr h) (inr g) = lexed_asymmetric c d h.1 g.1

  lex_asymmetric : (c d : List A) → Lex R c d → Lex R d c → ⊥
  lex_asymmetric c d h g = lexed_asymmetric c d (lexed h) (lexed g)

  pub before_asymmetric : Asymmetric (Before R)
  before_asymmetric c d (shorter h) (shorter g) = omega arith
  before_asymmetric c d (shorter h) (as_long e g) = omega arith
  before_asymmetric c d (as_long e h) (shorter g) = omega arith
  before_asymmetric c d (as_long e h) (as_long f g) = lex_asymmetric _ _ h g

  -- ---- what is taken is what ascends

  sub_ascending : (c xs : List A) → Sub c xs → Ascending R xs → Ascending R c
  sub_ascending c xs end a = tt
  sub_ascending c xs (keep {x = x} {c = d} {xs = ys} s) a = ((λ y i. a.0 y (sub_in d ys s y i)), sub_ascending d ys s a.1)
  sub_ascending c xs (skip {x = x} {y = y} {c = d} {xs = ys} s) a = sub_ascending (y ∷ d) ys s a.1

  -- a member that is not the first is one of the others
  rest_in : (x : A) (xs c : List A) → Every (λ y. y ∈ (x ∷ xs)) c → Every (λ y. y ≢ x) c → Every (λ y. y ∈ xs) c
  rest_in x xs c f g y i = go (f y i)
    where
      go : y ∈ (x ∷ xs) → y ∈ xs
      go (here e) = absurd (g y i e)
      go (there j) = j

  sub_step : (x : A) (xs c : List A) → Every (R x) xs → Ascending R c → Every (λ y. y ∈ (x ∷ xs)) c
      → ((d : List A) → Ascending R d → Every (λ y. y ∈ xs) d → Sub d xs) → Sub c (x ∷ xs)
  sub_step x xs [] a b f rec = end
  sub_step x xs (y ∷ c) a b f rec = go (f y (here refl))
    where
      go : y ∈ (x ∷ xs) → Sub (y ∷ c) (x ∷ xs)
      go (here e) =
          subst (λ (z : A). Sub (z ∷ c) (x ∷ xs)) (sym e)
          (keep (rec c b.1 (rest_in x xs c (shrink f) (λ z i q. let r : R y y = subst (R y) (q ∙ sym e) (b.0 z i) in asym y y r r))))
      go (there i) =
          let above : R x y = a y i in
          skip
          (rec (y ∷ c) b
          (rest_in x xs (y ∷ c) f
          (every_cons (λ z. z ≢ x) (λ q. let r : R x x = subst (R x) q above in asym x x r r) (λ z j q. asym x y above (subst (R y) q (b.0 z j))))))

  sub_none : (c : List A) → Every (λ x. x ∈ []) c → Sub c []
  sub_none [] f = end
  sub_none (y ∷ c) f = absurd (not-nil (f y (here refl)))

  ascending_sub : (xs : List A) → Ascending R xs → (c : List A) → Ascending R c → Every (λ x. x ∈ xs) c → Sub c xs
  ascending_sub [] a c b f = sub_none c f
  ascending_sub (x ∷ xs) a c b f = sub_step x xs c a.0 b f (λ d e g. ascending_sub xs a.1 d e g)

  -- ---- in order

  ordered-map : (x : A) (cs : List (List A)) → Ascending (Lex R) cs → Ascending (Lex R) (map (λ d. x ∷ d) cs)
  ordered-map x [] h = tt
  ordered-map x (c ∷ cs) h = (
    (λ d i. let r = from_map x d cs i in subst (Lex R (x ∷ c)) (sym r.2) (later (h.0 r.0 r.1))),
    ordered-map x cs h.1,
  )

  behind : (k : ℕ) (x : A) (xs : List A) → Every (R x) xs → (c d : List A) → Of (suc k) xs d → Lex R (x ∷ c) d
  behind k x xs f c [] h = absurd (omega (arith, h.1))
  behind k x xs f c (y ∷ d) h = first (f y (sub_in (y ∷ d) xs h.0 y (here refl)))

  combinations-ordered : (k : ℕ) (xs : List A) → Ascending R xs → Ascending (Lex R) (combinations k xs)
  unfolding combinations
  combinations-ordered zero xs a = (every_nil (Lex R []), tt)
  combinations-ordered (suc k) [] a = tt
  combinations-ordered (suc k) (x ∷ xs) a =
      ascending_append (Lex R) (map (λ d. x ∷ d) (combinations k xs)) (combinations (suc k) xs)
      (ordered-map x (combinations k xs) (combinations-ordered k xs a.1))
      (combinations-ordered (suc k) xs a.1)
      (λ c i d j.
      let r = from_map x c (combinations k xs) i in
      subst (λ (e : List A). Lex R e d) (sym r.2) (behind k x xs a.0 r.0 d (takes (suc k) xs d j)))

  as_long_all : (k : ℕ) (cs : List (List A)) → Every (λ c. length c ≡ k) cs → Ascending (Lex R) cs → Ascending (Before R) cs
  as_long_all k [] f o = tt
  as_long_all k (c ∷ cs) f o = ((λ d i. as_long (f c (here refl) ∙ sym (f d (there i))) (o.0 d i)), as_long_all k cs (shrink f) o.1)

  module _ (xs : List A) (a : Ascending R xs) where
    -- Every list of such a size whose members are of xs and ascend comes, and asym other.
    pub sizes_exactly : (k n : ℕ) (c : List A)
        → (c ∈ of_sizes k n xs) ↔ (Ascending R c × Every (λ x. x ∈ xs) c × (k ≤ length c) × (length c < k + n))
    sizes_exactly k n c = (
      (λ i. let o = sizes_take k n xs c i in (sub_ascending c xs o.0 a, sub_in c xs o.0, o.1, o.2)),
      λ h. sizes_taken c xs (ascending_sub xs a c h.0 h.1) k n h.2 h.3,
    )

    -- They come by length, then member by member; so none comes twice.
    pub sizes_ordered : (k n : ℕ) → Ascending (Before R) (of_sizes k n xs)
    unfolding of_sizes
    sizes_ordered k zero = tt
    sizes_ordered k (suc n) =
        ascending_append (Before R) (combinations k xs) (of_sizes (suc k) n xs)
        (as_long_all k (combinations k xs) (combinations_size k xs) (combinations-ordered k xs a))
        (sizes_ordered (suc k) n)
        (λ c i d j. shorter (omega (arith, combinations_size k xs c i, (sizes_take (suc k) n xs d j).1)))
