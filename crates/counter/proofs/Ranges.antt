-- The clauses' literals are those of the script's variables, three at most to a clause.
use Prim.Native.Nat.{ℕ, zero, suc, ◌+◌, ◌-◌, ◌*◌, ◌≤◌, ◌<◌}
use native.Mathlib.Omega.{arith}
use Rattle.std.proofs.Math.Nat.{suc-mul}
use Rattle.std.specs.Prelude.{◌≡◌, refl, ◌⊎◌, Bool, true, false, ◌&&◌, ◌||◌, T, eqb, ltb, leb}
use Rattle.std.proofs.Common.{ap, sym, inl, inr, ltb→lt, leb→le, eqb→eq, lt-ltb, le-ltb, ne_eqb, eq-eqb, leb-true}
use Rattle.std.proofs.Math.Path.{subst}
use mathlib.Core.List.Memᴰ.{head as here}
use mathlib.Core.List.{List, [], ◌∷◌}
use Rattle.std.proofs.Math.ListN.{length}
use Rattle.model.specs.Lit.{var, neg}
use Rattle.model.specs.Limits as Limits
use Rattle.model.specs.Script.{clause_kind, most_count}
use Rattle.model.specs.Book.{all, in_range_of}
use Rattle.lawbase.specs.Basics.{Every, every_nil, every_cons, every_append, shrink, split, same?, less?, neg_range}
use Rattle.book.specs.Booleans.{both, all_every}
use Rattle.script.specs.Judging.{Hold}
use Rattle.script.specs.Kinds.{count-clause}
use Rattle.script.specs.Accepted.{LiteralsFit}
use Rattle.counter.specs.Counter.{helper, columns, stop, next_row, rows, zeros, counter, negations, at_most, helpers, cells, max_count, apart, helpers_fit, at_most_rows}
use Rattle.counter.specs.Extend.{Apart}
use Rattle.counter.specs.Ranges.{Fit}

-- ---- what a call says that is not turned back by 2, 18 or 19

to_T : (b : Bool) → b ≡ true → T b
to_T b e = subst T (sym e) tt

or_T : (a b : Bool) → T (a || b) → T a ⊎ T b
or_T true b h = inl tt
or_T false b h = inr h

apart_of : (first used l : ℕ) → T (apart first used l) → Apart first used (var l)
unfolding apart
apart_of first used l h =
    split (or_T (ltb (var l) first) (leb (first + used) (var l)) h) (λ t. inl (ltb→lt (var l) first t)) (λ t. inr (leb→le (first + used) (var l) t))

fit_helpers : (v first used : ℕ) → helpers_fit v first used ≡ true → (used ≡ 0) ⊎ (first + used ≤ v)
unfolding helpers_fit
fit_helpers v first used e =
    split (or_T (eqb used 0) (leb (first + used) v) (to_T (eqb used 0 || leb (first + used) v) e)) (λ t. inl (eqb→eq used 0 t)) (λ t. inr (leb→le (first + used) v t))

pub fit_of : (v : ℕ) (ls : List ℕ) (k first room : ℕ) → Hold (at_most_rows v ls k first room) → Fit v ls k first
unfolding at_most_rows in_range_of
fit_of v ls k first room h =
    let used = helpers k (length ls) in
    let a = both (leb 1 v) (leb v Limits.max_variables) (to_T (leb 1 v && leb v Limits.max_variables) h.0) in
    let b = both (leb 1 (length ls)) (leb (length ls) max_count) (to_T (leb 1 (length ls) && leb (length ls) max_count) h.1.0) in
    record {
      some_variable = leb→le 1 v a.0;
      variables = leb→le v Limits.max_variables a.1;
      some = leb→le 1 (length ls) b.0;
      few = leb→le (length ls) max_count b.1;
      in_range = λ l i. ltb→lt l (2 * v) (all_every (in_range_of v) ls (to_T (all (in_range_of v) ls) h.1.1.0) l i);
      distinct = h.1.1.1.0;
      apart = λ l i. apart_of first used l (all_every (apart first used) ls (to_T (all (apart first used) ls) h.1.1.1.1.0) l i);
      helpers_fit = fit_helpers v first used h.1.1.1.1.1.0;
    }

-- the slice is as long as it takes
pub room_of : (v : ℕ) (ls : List ℕ) (k first room : ℕ) → Hold (at_most_rows v ls k first room) → length (cells (at_most k first ls)) ≤ room
unfolding at_most_rows
room_of v ls k first room h = leb-true (length (cells (at_most k first ls))) room h.1.1.1.1.1.1.0

-- ---- the cases of at_most

-- k is 0; or it is less than n, so n is two or more; or it is n or more
pub at_most_cases : (P : List (List ℕ) → Type 0) (k first : ℕ) (ls : List ℕ) → (k ≡ 0 → P (negations ls)) → (1 ≤ k → k < length ls → P (counter k first ls))
    → (length ls ≤ k → P []) → P (at_most k first ls)
unfolding at_most
at_most_cases P k first ls f g h = split (same? k 0)
    (λ e. rw (eq-eqb k 0 e, at_most) (f e))
    (λ ne. split (less? k (length ls))
    (λ l. rw (ne_eqb k 0 ne, lt-ltb k (length ls) l, at_most) (g (omega (arith, ne)) l))
    (λ l. rw (ne_eqb k 0 ne, le-ltb k (length ls) l, at_most) (h l)))

pub helpers_some : (k n : ℕ) → k < n → helpers k n ≡ (n - 1) * k
unfolding helpers
helpers_some k n h = rw (lt-ltb k n h, helpers)

pub helpers_none : (k n : ℕ) → n ≤ k → helpers k n ≡ 0
unfolding helpers
helpers_none k n h = rw (le-ltb k n h, helpers)

-- ---- the literals

module _ (v : ℕ) where
  -- a clause of literals of v variables, as a record of the script may have it
  abbrev Fitting : List (List ℕ) → Type 0
  Fitting cs = Every (LiteralsFit clause_kind v) cs

  abbrev In : ℕ → Type 0
  In l = l < 2 * v

  -- a clause here is short
  few : (n : ℕ) → n ≤ 3 → n ≤ 2 * v → n ≤ most_count clause_kind v
  few n h g = omega (arith, h, g, count-clause clause_kind v refl)

  fit_one : (a : ℕ) → In a → LiteralsFit clause_kind v (a ∷ [])
  fit_one a h = record { count = few 1 (omega arith) (omega arith); literals = every_cons In h (every_nil In) }

  fit_two : (a b : ℕ) → In a → In b → LiteralsFit clause_kind v (a ∷ b ∷ [])
  fit_two a b h g = record { count = few 2 (omega arith) (omega arith); literals = every_cons In h (every_cons In g (every_nil In)) }

  fit_three : (a b c : ℕ) → 2 ≤ v → In a → In b → In c → LiteralsFit clause_kind v (a ∷ b ∷ c ∷ [])
  fit_three a b c m h g i = record { count = few 3 (omega arith) (omega arith); literals = every_cons In h (every_cons In g (every_cons In i (every_nil In))) }

  helper_in : (base j : ℕ) → base + j < v → In (helper base j)
  unfolding helper
  helper_in base j h = omega arith

  not_helper_in : (base j : ℕ) → base + j < v → In (neg (helper base j))
  not_helper_in base j h = neg_range (helper base j) v (helper_in base j h)

  negations_fit : (ls : List ℕ) → Every In ls → Fitting (negations ls)
  unfolding negations
  negations_fit [] h = every_nil (LiteralsFit clause_kind v)
  negations_fit (x ∷ xs) h = every_cons (LiteralsFit clause_kind v) (fit_one (neg x) (neg_range x v (h x (here refl)))) (negations_fit xs (shrink h))

  module _ (k : ℕ) (some : 1 ≤ k) where
    zeros_fit : (base j m : ℕ) → base + k ≤ v → j + m < k → Fitting (zeros base j m)
    unfolding zeros
    zeros_fit base j zero b h = every_nil (LiteralsFit clause_kind v)
    zeros_fit base j (suc m) b h =
        every_cons (LiteralsFit clause_kind v) (fit_one (neg (helper base (suc j))) (not_helper_in base (suc j) (omega arith))) (zeros_fit base (suc j) m b (omega arith))

    stop_fit : (x base : ℕ) → In x → base + k ≤ v → LiteralsFit clause_kind v (stop k x base)
    unfolding stop
    stop_fit x base h b = fit_two (neg x) (neg (helper base (k - 1))) (neg_range x v h) (not_helper_in base (k - 1) (omega arith))

    columns_fit : (x base j m : ℕ) → In x → base + k + k ≤ v → j + m < k → Fitting (columns x base (base + k) j m)
    unfolding columns
    columns_fit x base j zero h b l = every_nil (LiteralsFit clause_kind v)
    columns_fit x base j (suc m) h b l =
        every_cons (LiteralsFit clause_kind v)
        (fit_three (neg x) (neg (helper base j)) (helper (base + k) (suc j)) (omega arith) (neg_range x v h) (not_helper_in base j (omega arith)) (helper_in (base + k) (suc j) (omega arith)))
        (every_cons (LiteralsFit clause_kind v)
        (fit_two (neg (helper base (suc j))) (helper (base + k) (suc j)) (not_helper_in base (suc j) (omega arith)) (helper_in (base + k) (suc j) (omega arith)))
        (columns_fit x base (suc j) m h b (omega arith)))

    row_fit : (x base : ℕ) → In x → base + k + k ≤ v → Fitting (next_row k x base)
    unfolding next_row
    row_fit x base h b =
        every_cons (LiteralsFit clause_kind v) (fit_two (neg x) (helper (base + k) 0) (neg_range x v h) (helper_in (base + k) 0 (omega arith)))
        (every_cons (LiteralsFit clause_kind v) (fit_two (neg (helper base 0)) (helper (base + k) 0) (not_helper_in base 0 (omega arith)) (helper_in (base + k) 0 (omega arith)))
        (every_append (LiteralsFit clause_kind v) (columns x base (base + k) 0 (k - 1)) (columns_fit x base 0 (k - 1) h b (omega arith))
        (every_cons (LiteralsFit clause_kind v) (stop_fit x base h (omega arith)) (every_nil (LiteralsFit clause_kind v)))))

    rows_fit : (ys : List ℕ) (base : ℕ) → Every In ys → base + length ys * k ≤ v → Fitting (rows k base ys)
    unfolding rows
    rows_fit [] base h b = every_nil (LiteralsFit clause_kind v)
    rows_fit (x ∷ []) base h b = every_cons (LiteralsFit clause_kind v) (stop_fit x base (h x (here refl)) (omega (arith, suc-mul 0 k))) (every_nil (LiteralsFit clause_kind v))
    rows_fit (x ∷ y ∷ ys) base h b =
        every_append (LiteralsFit clause_kind v) (next_row k x base)
        (row_fit x base (h x (here refl)) (omega (arith, suc-mul (suc (length ys)) k, suc-mul (length ys) k)))
        (rows_fit (y ∷ ys) (base + k) (shrink h) (omega (arith, suc-mul (suc (length ys)) k)))

    counter_fit : (first x y : ℕ) (ys : List ℕ) → Every In (x ∷ y ∷ ys) → first + (length (x ∷ y ∷ ys) - 1) * k ≤ v → Fitting (counter k first (x ∷ y ∷ ys))
    unfolding counter
    counter_fit first x y ys h b =
        let n : length (x ∷ y ∷ ys) - 1 ≡ suc (length ys) = omega arith in
        let c : first + suc (length ys) * k ≤ v = subst (λ (m : ℕ). first + m * k ≤ v) n b in
        every_cons (LiteralsFit clause_kind v) (fit_two (neg x) (helper first 0) (neg_range x v (h x (here refl))) (helper_in first 0 (omega (arith, c, suc-mul (length ys) k))))
        (every_append (LiteralsFit clause_kind v) (zeros first 0 (k - 1)) (zeros_fit first 0 (k - 1) (omega (arith, c, suc-mul (length ys) k)) (omega arith))
        (rows_fit (y ∷ ys) first (shrink h) c))

-- two literals or more, taken apart
pub two_or_more : (P : List ℕ → Type 0) (ls : List ℕ) → 2 ≤ length ls → ((x y : ℕ) (ys : List ℕ) → P (x ∷ y ∷ ys)) → P ls
two_or_more P [] h f = absurd (omega arith)
two_or_more P (x ∷ []) h f = absurd (omega arith)
two_or_more P (x ∷ y ∷ ys) h f = f x y ys

-- the helpers of a counter are variables
pub helpers_in : (v : ℕ) (ls : List ℕ) (k first : ℕ) → Fit v ls k first → 1 ≤ k → k < length ls → first + (length ls - 1) * k ≤ v
helpers_in v ls k first f some l =
    let e = helpers_some k (length ls) l in
    split f.helpers_fit
    (λ z. absurd (omega (arith, e, z, suc-mul (length ls - 2) k, ap (λ (m : ℕ). m * k) (one_less (length ls) (omega arith)))))
    (λ z. omega (arith, e, z))
  where
    one_less : (n : ℕ) → 2 ≤ n → n - 1 ≡ suc (n - 2)
    one_less n h = omega arith

pub at_most_fits : (v : ℕ) (ls : List ℕ) (k first : ℕ) → Fit v ls k first → Every (LiteralsFit clause_kind v) (at_most k first ls)
at_most_fits v ls k first f =
    at_most_cases (Every (LiteralsFit clause_kind v)) k first ls
    (λ e. negations_fit v ls f.in_range)
    (λ some l.
    two_or_more (λ (ls : List ℕ). Every (λ l. l < 2 * v) ls → first + (length ls - 1) * k ≤ v → Every (LiteralsFit clause_kind v) (counter k first ls)) ls (omega arith)
    (λ x y ys. counter_fit v k some first x y ys) f.in_range (helpers_in v ls k first f some l))
    (λ l. every_nil (LiteralsFit clause_kind v))
