-- There are 3^V - 1 clauses: each variable is in a clause by one sign, by the other, or not at all; and the empty clause does not count.
use Rattle.std.specs.Prelude.{◌≡◌, Bool, true, false, ◌&&◌, not, length}
use Rattle.std.proofs.Math.Path.{refl, ap}
use Rattle.std.proofs.Common.{sym, ◌∙◌, arith, pow-suc, add-zero, zero-add, length-append, eq-eqb, ne_eqb}
use mathlib.Core.List.Memᴰ.{head as here}
use mathlib.Core.List.{List, [], ◌∷◌, ◌++◌, map}
use Prim.Native.Nat.{ℕ, zero, suc, ◌+◌, ◌*◌, ◌^◌, ◌<◌}
use Rattle.model.specs.Lit.{var}
use Rattle.lawbase.specs.Basics.{Every, shrink, split, on?}
use Rattle.smallbooks.specs.Choose.{combinations, of_sizes}
use Rattle.smallbooks.proofs.Choose.{combinations_in}
use Rattle.smallbooks.specs.Books.{upward, literals, apart, filter, clauses}
use Rattle.smallbooks.proofs.SetsLaws.{upward_from, filter-append}

-- how many are kept
abbrev kept : List (List ℕ) → ℕ
kept cs = length (filter apart cs)

kept_true : (c : List ℕ) (cs : List (List ℕ)) → apart c ≡ true → kept (c ∷ cs) ≡ suc (kept cs)
unfolding filter
kept_true c cs e = rw (e, filter)

kept_false : (c : List ℕ) (cs : List (List ℕ)) → apart c ≡ false → kept (c ∷ cs) ≡ kept cs
unfolding filter
kept_false c cs e = rw (e, filter)

kept_append : (cs ds : List (List ℕ)) → kept (cs ++ ds) ≡ kept cs + kept ds
kept_append cs ds = ap length (filter-append apart cs ds) ∙ length-append (filter apart cs) (filter apart ds)

-- a literal in front that changes nothing, and one that always does
kept_same : (l : ℕ) (cs : List (List ℕ)) → Every (λ c. apart (l ∷ c) ≡ apart c) cs → kept (map (λ c. l ∷ c) cs) ≡ kept cs
unfolding filter
kept_same l [] f = refl
kept_same l (c ∷ cs) f =
    let r = kept_same l cs (shrink f) in
    let e = f c (here refl) in
    split (on? (apart c))
    (λ t. kept_true (l ∷ c) (map (λ d. l ∷ d) cs) (e ∙ t) ∙ ap suc r ∙ sym (kept_true c cs t))
    (λ t. kept_false (l ∷ c) (map (λ d. l ∷ d) cs) (e ∙ t) ∙ r ∙ sym (kept_false c cs t))

kept_none : (l m : ℕ) (cs : List (List ℕ)) → var l ≡ var m → kept (map (λ c. l ∷ c) (map (λ c. m ∷ c) cs)) ≡ 0
unfolding filter apart
kept_none l m [] e = refl
kept_none l m (c ∷ cs) e =
    kept_false (l ∷ m ∷ c) (map (λ d. l ∷ d) (map (λ d. m ∷ d) cs)) (ap (λ (b : Bool). not b && apart (m ∷ c)) (eq-eqb (var l) (var m) e)) ∙ kept_none l m cs e

map-append : (l : ℕ) (cs ds : List (List ℕ)) → map (λ c. l ∷ c) (cs ++ ds) ≡ map (λ c. l ∷ c) cs ++ map (λ c. l ∷ c) ds
map-append l [] ds = refl
map-append l (c ∷ cs) ds = ap (λ (x : List (List ℕ)). (l ∷ c) ∷ x) (map-append l cs ds)

front_apart : (l : ℕ) (c : List ℕ) → Every (λ m. var l < var m) c → apart (l ∷ c) ≡ apart c
unfolding apart
front_apart l [] f = refl
front_apart l (m ∷ c) f = ap (λ (b : Bool). not b && apart (m ∷ c)) (ne_eqb (var l) (var m) (λ e. omega (arith, e, f m (here refl))))

-- l and m are the literals of a variable, those of later ones stand behind them
module _ (l m : ℕ) (rest : List ℕ) (e : var l ≡ var m) (f : Every (λ x. var l < var x) rest) where
  front : (x : ℕ) → var x ≡ var l → (k : ℕ) → kept (map (λ c. x ∷ c) (combinations k rest)) ≡ kept (combinations k rest)
  front x q k = kept_same x (combinations k rest)
      (λ c i. front_apart x c (λ y j. omega (arith, q, f y (combinations_in k rest c i y j))))

  front_first : (k : ℕ) → kept (map (λ c. l ∷ c) (combinations k (m ∷ rest))) ≡ kept (combinations k rest)
  unfolding combinations filter apart
  front_first zero = refl
  front_first (suc k) =
      let with_m = map (λ c. m ∷ c) (combinations k rest) in
      ap kept (map-append l with_m (combinations (suc k) rest))
      ∙ kept_append (map (λ c. l ∷ c) with_m) (map (λ c. l ∷ c) (combinations (suc k) rest))
      ∙ omega (arith, kept_none l m (combinations k rest) e, front l refl (suc k))

  pair : (k : ℕ) → kept (combinations (suc k) (l ∷ m ∷ rest)) ≡ kept (combinations k rest) + kept (combinations k rest) + kept (combinations (suc k) rest)
  unfolding combinations
  pair k =
      let with_l = map (λ c. l ∷ c) (combinations k (m ∷ rest)) in
      let with_m = map (λ c. m ∷ c) (combinations k rest) in
      omega (arith, kept_append with_l (with_m ++ combinations (suc k) rest), kept_append with_m (combinations (suc k) rest), front_first k, front m (sym e) k)

-- the clauses of k out of v variables
ways : ℕ → ℕ → ℕ
ways zero v = 1
ways (suc k) zero = 0
ways (suc k) (suc v) = ways k v + ways k v + ways (suc k) v

later : (i n : ℕ) → Every (λ x. i < var x) (upward (2 * suc i) n)
later i n x j = omega (arith, upward_from (2 * suc i) n x j)

number_of : (k v i : ℕ) → kept (combinations k (upward (2 * i) (2 * v))) ≡ ways k v
unfolding combinations filter apart upward ways
number_of zero v i = refl
number_of (suc k) zero i = refl
number_of (suc k) (suc v) i =
    let twice : 2 * suc v ≡ suc (suc (2 * v)) = omega arith in
    let next : suc (suc (2 * i)) ≡ 2 * suc i = omega arith in
    let rest = upward (2 * suc i) (2 * v) in
    ap (λ (n : ℕ). kept (combinations (suc k) (upward (2 * i) n))) twice
    ∙ ap (λ (n : ℕ). kept (combinations (suc k) ((2 * i) ∷ suc (2 * i) ∷ upward n (2 * v)))) next
    ∙ pair (2 * i) (suc (2 * i)) rest (omega arith) (λ x j. omega (arith, later i (2 * v) x j)) k
    ∙ omega (arith, number_of k v (suc i), number_of (suc k) v (suc i))

-- the clauses of n lengths from k on
total : ℕ → ℕ → ℕ → ℕ
total k zero v = 0
total k (suc n) v = ways k v + total (suc k) n v

total_of : (k n v : ℕ) → kept (of_sizes k n (upward 0 (2 * v))) ≡ total k n v
unfolding of_sizes total filter
total_of k zero v = refl
total_of k (suc n) v =
    omega (arith, kept_append (combinations k (upward 0 (2 * v))) (of_sizes (suc k) n (upward 0 (2 * v))), number_of k v 0, total_of (suc k) n v)

ways_none : (k v : ℕ) → v < k → ways k v ≡ 0
unfolding ways
ways_none zero v h = absurd (omega arith)
ways_none (suc k) zero h = refl
ways_none (suc k) (suc v) h = omega (arith, ways_none k v (omega arith), ways_none (suc k) v (omega arith))

total_variable : (k n v : ℕ) → total (suc k) n (suc v) ≡ 2 * total k n v + total (suc k) n v
unfolding ways total
total_variable k zero v = refl
total_variable k (suc n) v = omega (arith, total_variable (suc k) n v)

total_last : (k n v : ℕ) → total k (suc n) v ≡ total k n v + ways (k + n) v
unfolding total
total_last k zero v = omega (arith, ap (λ (j : ℕ). ways j v) (add-zero k))
total_last k (suc n) v =
    let q : suc k + n ≡ k + suc n = omega arith in
    omega (arith, total_last (suc k) n v, ap (λ (j : ℕ). ways j v) q)

power : (v : ℕ) → total 0 (suc v) v ≡ 3 ^ v
unfolding ways total
power zero = refl
power (suc v) =
    let a = total_variable 0 (suc v) v in
    let b = total_last 0 (suc v) v in
    let c = ways_none (suc v) v (omega arith) in
    let d : ways (0 + suc v) v ≡ ways (suc v) v = ap (λ (j : ℕ). ways j v) (zero-add (suc v)) in
    omega (arith, a, b, c, d, power v, pow-suc 3 v)

pub clauses_number : (v : ℕ) → 1 + length (clauses v) ≡ 3 ^ v
unfolding clauses literals ways total
clauses_number v = omega (arith, total_of 1 v v, power v)
