-- What the counter says: a row that is a model of it has at most k of the literals true, and a row with at most k true becomes one by the helpers' values alone.
-- A row is a function here, as in lawbase; specs/Rows.antt has the same over rows as the book has them.
use Prim.Native.Nat.{ℕ, zero, suc, ◌+◌, ◌-◌, ◌≤◌, ◌<◌}
use native.Mathlib.Omega.{arith}
use Rattle.std.specs.Prelude.{◌≡◌, Bool, length, ltb}
use Rattle.std.proofs.Math.Path.{refl, subst}
use Rattle.std.proofs.Common.{ap, sym, ◌∙◌, true≢false}
use Rattle.std.proofs.Math.Bool.{true, false}
use mathlib.Core.List.Memᴰ.{append_left as in_left}
use mathlib.Core.List.Memᴰ.{append_right as in_right}
use mathlib.Core.List.Memᴰ.{head as here}
use mathlib.Core.List.Memᴰ.{not-nil}
use mathlib.Core.List.Memᴰ.{tail as there}
use mathlib.Core.List.{List, [], ◌∷◌}
use borrow.Author.Tests.{lt-ltb, le-ltb, ltb-true}
use Rattle.model.specs.Lit.{neg}
use Rattle.lawbase.specs.Basics.{Every, every_nil, every_cons, every_append, shrink, split, on?, same?, less?}
use Rattle.lawbase.specs.WellFormed.{bit}
use Rattle.lawbase.specs.Sem.{Row, sat, Sat, Models, sat-neg, sat_not_both}
use Rattle.counter.specs.Counter.{helper, columns, stop, next_row, rows, zeros, counter, negations}
use Rattle.counter.specs.Says.{trues}

pub bit_le : (b : Bool) → bit b ≤ 1
bit_le true = omega arith
bit_le false = omega arith

pub trues_le : (ρ : ℕ → ℕ) (xs : List ℕ) → trues ρ xs ≤ length xs
unfolding trues
trues_le ρ [] = omega arith
trues_le ρ (x ∷ xs) = omega (arith, trues_le ρ xs, bit_le (sat ρ x))

-- ---- a model has at most k of them

module _ (ρ : ℕ → ℕ) where
  one : (a : ℕ) → Sat ρ (a ∷ []) → sat ρ a ≡ true
  one a (l, here e, t) = sym (ap (sat ρ) e) ∙ t
  one a (l, there i, t) = absurd (not-nil i)

  -- a clause of two or three whose first literals are false
  two : (a b : ℕ) → Sat ρ (a ∷ b ∷ []) → sat ρ a ≡ false → sat ρ b ≡ true
  two a b (l, here e, t) f = absurd (true≢false (sym t ∙ ap (sat ρ) e ∙ f))
  two a b (l, there i, t) f = one b (l, i, t)

  three : (a b c : ℕ) → Sat ρ (a ∷ b ∷ c ∷ []) → sat ρ a ≡ false → sat ρ b ≡ false → sat ρ c ≡ true
  three a b c (l, here e, t) f g = absurd (true≢false (sym t ∙ ap (sat ρ) e ∙ f))
  three a b c (l, there i, t) f g = two b c (l, i, t) g

  false_neg : (x : ℕ) → sat ρ x ≡ true → sat ρ (neg x) ≡ false
  false_neg x t = split (on? (sat ρ (neg x))) (λ e. absurd (sat_not_both ρ x t e)) (λ e. e)

  -- the negations: none is true
  pub negations_none : (xs : List ℕ) → Models ρ (negations xs) → trues ρ xs ≡ 0
  unfolding negations trues
  negations_none [] h = refl
  negations_none (x ∷ xs) h = split (on? (sat ρ x))
      (λ t. absurd (true≢false (sym (one (neg x) (h (neg x ∷ []) (here refl))) ∙ false_neg x t)))
      (λ t. rw t (omega (arith, negations_none xs (λ c i. h c (there i)))))

  module _ (k : ℕ) (some : 1 ≤ k) where
    -- the first p columns of the row at `base` are true
    abbrev Up : ℕ → ℕ → Type 0
    Up base p = (j : ℕ) → j < p → j < k → sat ρ (helper base j) ≡ true

    columns_in : (x base next j m : ℕ) → Models ρ (columns x base next j m) → (t : ℕ) → j ≤ t → t < j + m
        → Sat ρ (neg x ∷ neg (helper base t) ∷ helper next (suc t) ∷ []) × Sat ρ (neg (helper base (suc t)) ∷ helper next (suc t) ∷ [])
    unfolding columns
    columns_in x base next j zero h t a b = absurd (omega arith)
    columns_in x base next j (suc m) h t a b = split (same? t j)
        (λ e. subst (λ (y : ℕ). Sat ρ (neg x ∷ neg (helper base y) ∷ helper next (suc y) ∷ []) × Sat ρ (neg (helper base (suc y)) ∷ helper next (suc y) ∷ [])) (sym e)
        (h (neg x ∷ neg (helper base j) ∷ helper next (suc j) ∷ []) (here refl), h (neg (helper base (suc j)) ∷ helper next (suc j) ∷ []) (there (here refl))))
        (λ ne. columns_in x base next (suc j) m (λ c i. h c (there (there i))) t (omega arith) (omega arith))

    module _ (x base : ℕ) (h : Models ρ (next_row k x base)) where
      stops : Sat ρ (stop k x base)
      unfolding next_row
      stops = h (stop k x base) (there (there (in_right (columns x base (base + k) 0 (k - 1)) (here refl))))

      opens : Sat ρ (neg x ∷ helper (base + k) 0 ∷ [])
      unfolding next_row
      opens = h (neg x ∷ helper (base + k) 0 ∷ []) (here refl)

      carries : Sat ρ (neg (helper base 0) ∷ helper (base + k) 0 ∷ [])
      unfolding next_row
      carries = h (neg (helper base 0) ∷ helper (base + k) 0 ∷ []) (there (here refl))

      column : (t : ℕ) → suc t < k
          → Sat ρ (neg x ∷ neg (helper base t) ∷ helper (base + k) (suc t) ∷ []) × Sat ρ (neg (helper base (suc t)) ∷ helper (base + k) (suc t) ∷ [])
      unfolding next_row
      column t l = columns_in x base (base + k) 0 (k - 1) (λ c i. h c (there (there (in_left (stop k x base ∷ []) i)))) t (omega arith) (omega arith)

      up_false : (p : ℕ) → Up base p → Up (base + k) p
      up_false p u zero l m = two (neg (helper base 0)) (helper (base + k) 0) carries (false_neg (helper base 0) (u 0 l m))
      up_false p u (suc j) l m = two (neg (helper base (suc j))) (helper (base + k) (suc j)) (column j m).1 (false_neg (helper base (suc j)) (u (suc j) l m))

      up_true : (p : ℕ) → sat ρ x ≡ true → Up base p → Up (base + k) (suc p)
      up_true p t u zero l m = two (neg x) (helper (base + k) 0) opens (false_neg x t)
      up_true p t u (suc j) l m =
          three (neg x) (neg (helper base j)) (helper (base + k) (suc j)) (column j m).0 (false_neg x t) (false_neg (helper base j) (u j (omega arith) (omega arith)))

    -- with k true before it, x is false
    last_room : (x base p : ℕ) → Sat ρ (stop k x base) → Up base p → p ≤ k → sat ρ x ≡ true → p < k
    unfolding stop
    last_room x base p s u le t = split (less? p k) (λ h. h)
        (λ h. absurd (true≢false (sym (two (neg x) (neg (helper base (k - 1))) s (false_neg x t)) ∙ false_neg (helper base (k - 1)) (u (k - 1) (omega arith) (omega arith)))))

    rows_most : (ys : List ℕ) (base p : ℕ) → p ≤ k → Up base p → Models ρ (rows k base ys) → p + trues ρ ys ≤ k
    unfolding rows trues
    rows_most [] base p le u h = omega arith
    rows_most (x ∷ []) base p le u h = split (on? (sat ρ x))
        (λ t. rw t (omega (arith, last_room x base p (h (stop k x base) (here refl)) u le t)))
        (λ t. rw t (omega arith))
    rows_most (x ∷ y ∷ ys) base p le u h =
        let hr : Models ρ (next_row k x base) = λ c i. h c (in_left (rows k (base + k) (y ∷ ys)) i) in
        let hs : Models ρ (rows k (base + k) (y ∷ ys)) = λ c i. h c (in_right (next_row k x base) i) in
        split (on? (sat ρ x))
        (λ t.
        let room = last_room x base p (stops x base hr) u le t in
        rw t (omega (arith, rows_most (y ∷ ys) (base + k) (suc p) (omega (arith, room)) (up_true x base hr p t u) hs)))
        (λ t. rw t (omega (arith, rows_most (y ∷ ys) (base + k) p le (up_false x base hr p u) hs)))

    pub counter_most : (first : ℕ) (xs : List ℕ) → Models ρ (counter k first xs) → trues ρ xs ≤ k
    unfolding counter trues
    counter_most first [] h = omega arith
    counter_most first (x ∷ xs) h =
        let hs : Models ρ (rows k first xs) = λ c i. h c (there (in_right (zeros first 0 (k - 1)) i)) in
        let s = h (neg x ∷ helper first 0 ∷ []) (here refl) in
        split (on? (sat ρ x))
        (λ t. rw t (rows_most xs first 1 (omega arith) (up s t) hs))
        (λ t. rw t (rows_most xs first 0 (omega arith) (λ j l m. absurd (omega arith)) hs))
      where
        up : Sat ρ (neg x ∷ helper first 0 ∷ []) → sat ρ x ≡ true → Up first 1
        up s t zero l m = two (neg x) (helper first 0) s (false_neg x t)
        up s t (suc j) l m = absurd (omega arith)

-- ---- at most k of them: the helpers can be given values

module _ (ρ : ℕ → ℕ) (r : Row ρ) where
  pub none_negations : (xs : List ℕ) → trues ρ xs ≡ 0 → Models ρ (negations xs)
  unfolding negations trues
  none_negations [] e = λ c i. absurd (not-nil i)
  none_negations (x ∷ xs) e = every_cons (Sat ρ) (neg x, here refl, sat-neg ρ r x (off (sat ρ x) (omega (arith, e)))) (none_negations xs (omega (arith, e)))
    where
      off : (b : Bool) → bit b ≡ 0 → b ≡ false
      off true e = absurd (omega (arith, e))
      off false e = refl

module _ (k : ℕ) (some : 1 ≤ k) (ρ ρ' : ℕ → ℕ) (r' : Row ρ') where
  -- the row at `base` counts to p
  abbrev pub Counts : ℕ → ℕ → Type 0
  Counts base p = (j : ℕ) → j < k → sat ρ' (helper base j) ≡ ltb j p

  abbrev pub All : ℕ → ℕ → List ℕ → Type 0
  All base p [] = Unit {0}
  All base p (x ∷ []) = Counts base p
  All base p (x ∷ y ∷ ys) = Counts base p × All (base + k) (p + bit (sat ρ x)) (y ∷ ys)

  -- the literals have their values
  abbrev pub Same : List ℕ → Type 0
  Same xs = Every (λ x. sat ρ' x ≡ sat ρ x) xs

  -- a clause of a negated literal and another: where the one is true, the other is
  if : (a b : ℕ) → (sat ρ' a ≡ true → sat ρ' b ≡ true) → Sat ρ' (neg a ∷ b ∷ [])
  if a b f = split (on? (sat ρ' a)) (λ e. (b, there (here refl), f e)) (λ e. (neg a, here refl, sat-neg ρ' r' a e))

  if_both : (a b c : ℕ) → (sat ρ' a ≡ true → sat ρ' b ≡ true → sat ρ' c ≡ true) → Sat ρ' (neg a ∷ neg b ∷ c ∷ [])
  if_both a b c f = split (on? (sat ρ' a))
      (λ e. split (on? (sat ρ' b)) (λ g. (c, there (there (here refl)), f e g)) (λ g. (neg b, there (here refl), sat-neg ρ' r' b g)))
      (λ e. (neg a, here refl, sat-neg ρ' r' a e))

  not_both : (a b : ℕ) → (sat ρ' a ≡ true → sat ρ' b ≡ true → ⊥) → Sat ρ' (neg a ∷ neg b ∷ [])
  not_both a b f = split (on? (sat ρ' a))
      (λ e. split (on? (sat ρ' b)) (λ g. absurd (f e g)) (λ g. (neg b, there (here refl), sat-neg ρ' r' b g)))
      (λ e. (neg a, here refl, sat-neg ρ' r' a e))

  -- column j of a row that counts to p is true: j is below p
  below : (base p j : ℕ) → Counts base p → j < k → sat ρ' (helper base j) ≡ true → j < p
  below base p j c h t = ltb-true j p (sym (c j h) ∙ t)

  above : (base q j : ℕ) → Counts base q → j < k → j < q → sat ρ' (helper base j) ≡ true
  above base q j c h l = c j h ∙ lt-ltb j q l

  stop_models : (x base p : ℕ) → Counts base p → (sat ρ' x ≡ true → p < k) → Sat ρ' (stop k x base)
  unfolding stop
  stop_models x base p c room = not_both x (helper base (k - 1)) (λ a b. omega (arith, room a, below base p (k - 1) c (omega arith) b))

  module _ (x base p q : ℕ) (now : Counts base p) (next : Counts (base + k) q) (least : p ≤ q) (adds : sat ρ' x ≡ true → suc p ≤ q) where
    column_models : (j m : ℕ) → j + m < k → Models ρ' (columns x base (base + k) j m)
    unfolding columns
    column_models j zero le = λ c i. absurd (not-nil i)
    column_models j (suc m) le =
        every_cons (Sat ρ')
        (if_both x (helper base j) (helper (base + k) (suc j))
        (λ a b. above (base + k) q (suc j) next (omega arith) (omega (arith, adds a, below base p j now (omega arith) b))))
        (every_cons (Sat ρ')
        (if (helper base (suc j)) (helper (base + k) (suc j))
        (λ b. above (base + k) q (suc j) next (omega arith) (omega (arith, below base p (suc j) now (omega arith) b))))
        (column_models (suc j) m (omega arith)))

    row_models : (sat ρ' x ≡ true → p < k) → Models ρ' (next_row k x base)
    unfolding next_row
    row_models room =
        every_cons (Sat ρ') (if x (helper (base + k) 0) (λ a. above (base + k) q 0 next (omega arith) (omega (arith, adds a))))
        (every_cons (Sat ρ')
        (if (helper base 0) (helper (base + k) 0) (λ b. above (base + k) q 0 next (omega arith) (omega (arith, below base p 0 now (omega arith) b))))
        (every_append (Sat ρ') (columns x base (base + k) 0 (k - 1)) (column_models 0 (k - 1) (omega arith))
        (every_cons (Sat ρ') (stop_models x base p now room) (every_nil (Sat ρ')))))

  heads : (base p y : ℕ) (ys : List ℕ) → All base p (y ∷ ys) → Counts base p
  heads base p y [] a = a
  heads base p y (z ∷ ys) a = a.0

  bit_on : (x : ℕ) → sat ρ' x ≡ sat ρ x → sat ρ' x ≡ true → bit (sat ρ x) ≡ 1
  bit_on x e t = ap bit (sym e ∙ t)

  rows_models : (ys : List ℕ) (base p : ℕ) → All base p ys → Same ys → p + trues ρ ys ≤ k → Models ρ' (rows k base ys)
  unfolding rows trues
  rows_models [] base p a s le = λ c i. absurd (not-nil i)
  rows_models (x ∷ []) base p a s le =
      every_cons (Sat ρ') (stop_models x base p a (λ t. omega (arith, le, bit_on x (s x (here refl)) t))) (every_nil (Sat ρ'))
  rows_models (x ∷ y ∷ ys) base p a s le =
      every_append (Sat ρ') (next_row k x base)
      (row_models x base p (p + bit (sat ρ x)) a.0 (heads (base + k) (p + bit (sat ρ x)) y ys a.1) (omega arith)
      (λ t. omega (arith, bit_on x (s x (here refl)) t))
      (λ t. omega (arith, le, bit_on x (s x (here refl)) t)))
      (rows_models (y ∷ ys) (base + k) (p + bit (sat ρ x)) a.1 (shrink s) (omega (arith, le)))

  zeros_models : (base p : ℕ) → p ≤ 1 → Counts base p → (j m : ℕ) → j + m < k → Models ρ' (zeros base j m)
  unfolding zeros
  zeros_models base p le a j zero h = λ c i. absurd (not-nil i)
  zeros_models base p le a j (suc m) h =
      every_cons (Sat ρ')
      (neg (helper base (suc j)), here refl, sat-neg ρ' r' (helper base (suc j)) (a (suc j) (omega arith) ∙ le-ltb (suc j) p (omega arith)))
      (zeros_models base p le a (suc j) m (omega arith))

  -- the first row counts the first literal
  pub counter_models : (first x y : ℕ) (ys : List ℕ) → All first (bit (sat ρ x)) (y ∷ ys) → Same (x ∷ y ∷ ys) → trues ρ (x ∷ y ∷ ys) ≤ k
      → Models ρ' (counter k first (x ∷ y ∷ ys))
  unfolding counter trues
  counter_models first x y ys all s le =
      let a = heads first (bit (sat ρ x)) y ys all in
      every_cons (Sat ρ')
      (if x (helper first 0) (λ t. above first (bit (sat ρ x)) 0 a (omega arith) (omega (arith, bit_on x (s x (here refl)) t))))
      (every_append (Sat ρ') (zeros first 0 (k - 1)) (zeros_models first (bit (sat ρ x)) (bit_le (sat ρ x)) a 0 (k - 1) (omega arith))
      (rows_models (y ∷ ys) first (bit (sat ρ x)) all (shrink s) le))
