-- The judgement of a call by the facts that the code tests, and the turns of its loops.
use Rattle.std.specs.Prelude.{ℕ, ◌+◌, ◌-◌, ◌*◌, ◌/◌, ◌≤◌, ◌<◌, ◌≡◌, refl, Bool, ◌&&◌, ◌||◌, List, [], ◌∷◌, ◌++◌, length, get_or, take, drop, leb, nat_lt, nat_eq}
use Rattle.std.specs.List.{list_all, list_any}
use Rattle.std.proofs.Math.Decide.{dec_lt}
use Rattle.std.proofs.Common.{arith, mul-le-mul_left, mul-le-mul_right, le_trans, ◌∙◌, ap₂, take_all}
use Rattle.std.proofs.Math.Path.{ap, sym}
use Rattle.std.proofs.Math.Bool.{true, false}
use Rattle.std.proofs.Math.Dec.{eqb}
use borrow.Author.Tests.{lt-ltb, le-ltb, le-leb, lt-leb, leb-true, eq-eqb, ne_eqb}
use Rattle.model.specs.Lit.{var}
use Rattle.model.specs.Book.{all, any, in_range_of}
use Rattle.lawbase.specs.Basics.{split, less?}
use Rattle.script.specs.Judging.{Hold}
use Rattle.script.specs.Sound.{and_right}
use Rattle.counter.specs.Counter.{at_most, helpers, cells, max_count, max_helpers, needed, len_of, named, distinct, apart, helpers_fit, at_most_rows}
use Rattle.counter.specs.Rows.{call_rows, name_rows, room_rows}
use Rattle.counter.proofs.Writing.{len_is}
use Rattle.counter.proofs.Ranges.{helpers_some, helpers_none}

-- ---- the rows in parts

pub rows_parts : (v : ℕ) (ls : List ℕ) (k first room : ℕ) → at_most_rows v ls k first room ≡ call_rows v ls ++ (name_rows v ls k first ++ room_rows ls k first room)
unfolding at_most_rows
rows_parts v ls k first room = refl

-- a call whose first rows hold has few literals
pub few_of : (v : ℕ) (ls : List ℕ) → Hold (call_rows v ls) → length ls ≤ max_count
few_of v ls h = leb-true (length ls) max_count (and_right (leb 1 (length ls)) (leb (length ls) max_count) h.1.0)

pub room_is : (ls : List ℕ) (k first need : ℕ) → length ls ≤ max_count → need ≡ len_of (length ls) k → need ≡ length (cells (at_most k first ls))
room_is ls k first need few e = e ∙ sym (len_is k first ls few)

-- ---- how many helpers and cells

small_product : (a b m n : ℕ) → a ≤ m → b ≤ n → a * b ≤ m * n
small_product a b m n h g = le_trans (mul-le-mul_left a g) (mul-le-mul_right n h)

pub product_small : (k n : ℕ) → k < n → n ≤ max_count → (n - 1) * k ≤ max_helpers
product_small k n h g = small_product (n - 1) k max_count max_count (omega arith) (omega arith)

pub helpers_small : (k n : ℕ) → n ≤ max_count → helpers k n ≤ max_helpers
helpers_small k n g = split (less? k n)
    (λ h. omega (arith, helpers_some k n h, product_small k n h g))
    (λ h. omega (arith, helpers_none k n h))

module _ (n k : ℕ) where
  pub len_many : max_count < n → 0 ≡ len_of n k
  unfolding len_of
  len_many h = sym (rw (lt-leb n max_count h, len_of))

  pub len_none : n ≤ max_count → k ≡ 0 → 3 * n ≡ len_of n k
  unfolding len_of needed
  len_none h e = sym (rw (le-leb n max_count h, eq-eqb k 0 e, len_of, needed))

  pub len_all : n ≤ max_count → (k ≡ 0 → ⊥) → n ≤ k → 0 ≡ len_of n k
  unfolding len_of needed
  len_all h e l = sym (rw (le-leb n max_count h, ne_eqb k 0 e, le-ltb k n l, len_of, needed))

  pub len_some : n ≤ max_count → (k ≡ 0 → ⊥) → k < n → 8 + 3 * (k - 1) + (n - 2) * (9 * k + 3) ≡ len_of n k
  unfolding len_of needed
  len_some h e l = sym (rw (le-leb n max_count h, ne_eqb k 0 e, lt-ltb k n l, len_of, needed))

-- ---- tests of all literals

-- the definition's `all` and `any` are the library's
all_is : (p q : ℕ → Bool) → ((l : ℕ) → p l ≡ q l) → (ls : List ℕ) → list_all p ls ≡ all q ls
unfolding all
all_is p q e [] = refl
all_is p q e (l ∷ ls) = ap₂ (λ (a b : Bool). a && b) (e l) (all_is p q e ls)

any_is : (p : ℕ → Bool) (ls : List ℕ) → list_any p ls ≡ any p ls
unfolding any
any_is p [] = refl
any_is p (l ∷ ls) = ap (λ (b : Bool). p l || b) (any_is p ls)

pub in_range_is : (v : ℕ) (ls : List ℕ) → list_all (λ l. nat_lt (l / 2) v) ls ≡ all (in_range_of v) ls
unfolding in_range_of
in_range_is v ls = all_is (λ l. nat_lt (l / 2) v) (in_range_of v) (λ l. go l (dec_lt (l / 2) v)) ls
  where
    go : (l : ℕ) → Dec (l / 2 < v) → nat_lt (l / 2) v ≡ in_range_of v l
    go l (yes h) = lt-ltb (l / 2) v h ∙ sym (lt-ltb l (2 * v) (omega arith))
    go l (no h) = le-ltb (l / 2) v (omega arith) ∙ sym (le-ltb l (2 * v) (omega arith))

pub apart_is : (first used : ℕ) (ls : List ℕ) → list_all (apart first used) ls ≡ all (apart first used) ls
apart_is first used ls = all_is (apart first used) (apart first used) (λ l. refl) ls

pub named_is : (l : ℕ) (ls : List ℕ) → list_any (λ m. nat_eq (m / 2) (l / 2)) ls ≡ named l ls
unfolding named
named_is l ls = any_is (λ m. nat_eq (m / 2) (l / 2)) ls

-- a first literal, and the n others
pub distinct_here : (ls : List ℕ) (n : ℕ) → 1 ≤ length ls → n ≡ length ls - 1 → named (get_or ls 0 0) (take n (drop 1 ls)) ≡ false → distinct ls ≡ distinct (take n (drop 1 ls))
unfolding distinct
distinct_here [] n h e f = absurd (omega arith)
distinct_here (l ∷ ls) n h e f =
    let all : take n ls ≡ ls = take_all n ls (omega arith) in
    let g : named l ls ≡ false = rw all at f in
    rw all (rw (g, distinct))

pub distinct_fails : (ls : List ℕ) (n : ℕ) → 1 ≤ length ls → n ≡ length ls - 1 → named (get_or ls 0 0) (take n (drop 1 ls)) ≡ true → distinct ls ≡ false
unfolding distinct
distinct_fails [] n h e f = absurd (omega arith)
distinct_fails (l ∷ ls) n h e f =
    let all : take n ls ≡ ls = take_all n ls (omega arith) in
    let g : named l ls ≡ true = rw all at f in
    rw (g, distinct)

pub distinct_none : (ls : List ℕ) → length ls < 1 → distinct ls ≡ true
unfolding distinct
distinct_none [] h = refl
distinct_none (l ∷ ls) h = absurd (omega arith)

-- ---- tests

module _ (first used l : ℕ) where
  pub apart_before : var l < first → true ≡ apart first used l
  unfolding apart
  apart_before h = sym (rw (lt-ltb (var l) first h))

  pub apart_behind : first ≤ var l → leb (first + used) (var l) ≡ apart first used l
  unfolding apart
  apart_behind h = sym (rw (le-ltb (var l) first h))

module _ (v first used : ℕ) where
  pub fit_unused : used ≡ 0 → true ≡ helpers_fit v first used
  unfolding helpers_fit
  fit_unused h = sym (rw (eq-eqb used 0 h))

  pub fit_used : (used ≡ 0 → ⊥) → leb (first + used) v ≡ helpers_fit v first used
  unfolding helpers_fit
  fit_used h = sym (rw (ne_eqb used 0 h))
