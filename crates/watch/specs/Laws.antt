-- Watches whose nodes stand apart: what is known of a node, and what stays when one comes or goes.
use Rattle.std.specs.Prelude.{ℕ, zero, suc, ◌+◌, ◌≤◌, ◌<◌, Bool, ◌≡◌, refl, ◌≢◌, List, [], ◌∷◌, ◌++◌, length, get_or, set, eqb, leb}
use Rattle.std.proofs.Common.{arith, not-suc-le-zero, sym, ap, eq-eqb, ne_eqb, leb-false}
use Rattle.std.proofs.Math.Decide.{ℕ_discrete}
use Rattle.std.proofs.lemmas.Bool.{lt-leb}
use Rattle.region.specs.Table.{sum_of, sum-set, sum_get, sum_two}
use Rattle.watch.specs.Count.{bit, count, occ, over, bit_le, bit-zero, same_bit, count-append, count_at, count-without, occ_at, sum_le, over_less, occ_over, sum_most, sum_fewer}
use Rattle.watch.specs.View.{Chains, Apart, Under, Free, without}

-- ---- one list less a node

pub length_without : (i : ℕ) (xs : List ℕ) → i < length xs → suc (length (without i xs)) ≡ length xs
length_without i [] h = absurd (not-suc-le-zero h)
length_without zero (x ∷ xs) h = refl
length_without (suc i) (x ∷ xs) h = ap suc (length_without i xs (omega arith))

pub without_before : (i : ℕ) (xs : List ℕ) (k : ℕ) → k < i → i < length xs → get_or (without i xs) k 0 ≡ get_or xs k 0
without_before i [] k h g = absurd (not-suc-le-zero g)
without_before zero (x ∷ xs) k h g = absurd (not-suc-le-zero h)
without_before (suc i) (x ∷ xs) zero h g = refl
without_before (suc i) (x ∷ xs) (suc k) h g = without_before i xs k (omega arith) (omega arith)

pub without_after : (i : ℕ) (xs : List ℕ) (k : ℕ) → i ≤ k → get_or (without i xs) k 0 ≡ get_or xs (suc k) 0
without_after zero [] k h = refl
without_after (suc i) [] k h = refl
without_after zero (x ∷ xs) k h = refl
without_after (suc i) (x ∷ xs) zero h = absurd (not-suc-le-zero h)
without_after (suc i) (x ∷ xs) (suc k) h = without_after i xs k (omega arith)

-- ---- a node's place

-- a node stands in one place of its list
pub one_place : (xs : List ℕ) → ((y : ℕ) → occ y xs ≤ 1) → (i j : ℕ) → i < length xs → j < length xs → get_or xs i 0 ≡ get_or xs j 0 → i ≡ j
one_place [] once i j hi hj e = absurd (not-suc-le-zero hi)
one_place (x ∷ xs) once zero zero hi hj e = refl
one_place (x ∷ xs) once zero (suc j) hi hj e =
    absurd (omega (arith, once x, same_bit x, count_at (eqb x) xs j (omega arith), ap bit (eq-eqb x (get_or xs j 0) e)))
one_place (x ∷ xs) once (suc i) zero hi hj e =
    absurd (omega (arith, once x, same_bit x, count_at (eqb x) xs i (omega arith), ap bit (eq-eqb x (get_or xs i 0) (sym e))))
one_place (x ∷ xs) once (suc i) (suc j) hi hj e = ap suc (one_place xs (λ y. omega (arith, once y)) i j (omega arith) (omega arith) e)

-- ---- what is known of a node

pub node_below : (m : ℕ) (ls : List (List ℕ)) → Under m ls → (l i : ℕ) → l < length ls → i < length (get_or ls l []) → get_or (get_or ls l []) i 0 < m
node_below m ls k l i hl hi =
    let y = get_or (get_or ls l []) i 0 in
    let z : bit (leb m y) ≡ 0 = omega (arith, count_at (leb m) (get_or ls l []) i hi, sum_get (over m) ls l [] hl, k) in
    leb-false m y (bit-zero _ z)

module _ (m : ℕ) (ls : List (List ℕ)) (k : Chains m ls) where
  pub list_once : (l y : ℕ) → l < length ls → occ y (get_or ls l []) ≤ 1
  list_once l y hl = omega (arith, sum_get (occ y) ls l [] hl, k.apart y)

  -- a node of list l is in no other list
  pub not_other : (l i j : ℕ) → l < length ls → i < length (get_or ls l []) → j < length ls → j ≢ l → occ (get_or (get_or ls l []) i 0) (get_or ls j []) ≡ 0
  not_other l i j hl hi hj n =
      let y = get_or (get_or ls l []) i 0 in
      omega (arith, sum_two (occ y) ls l j [] refl hl hj n, occ_at (get_or ls l []) i hi, k.apart y)

  pub list_small : (l : ℕ) → l < length ls → length (get_or ls l []) ≤ m
  list_small l hl = omega (arith, sum_get length ls l [] hl, sum_most ls k.apart m k.under)

  -- a node that is in no list leaves room in each
  pub list_room : (l x : ℕ) → l < length ls → x < m → Free x ls → length (get_or ls l []) < m
  list_room l x hl hx f = omega (arith, sum_get length ls l [] hl, sum_fewer ls k.apart x m f hx k.under)

-- ---- nodes in use

-- a node from u on is in no list, if the lists' nodes are below u
pub fresh : (u x : ℕ) (ls : List (List ℕ)) → Under u ls → u ≤ x → Free x ls
fresh u x ls k h = omega (arith, sum_le (occ x) (over u) (occ_over u x h) ls)

pub under_more : (u v : ℕ) (ls : List (List ℕ)) → u ≤ v → Under u ls → Under v ls
under_more u v ls h k = omega (arith, sum_le (over v) (over u) (over_less u v h) ls)

-- ---- a node comes

module _ (ls : List (List ℕ)) (l x : ℕ) (hl : l < length ls) where
  sum-append : (p : ℕ → Bool) → sum_of (count p) (set ls l (get_or ls l [] ++ (x ∷ []))) ≡ sum_of (count p) ls + bit (p x)
  sum-append p =
      omega (arith, sum-set (count p) ls l (get_or ls l [] ++ (x ∷ [])) [] hl, count-append p (get_or ls l []) (x ∷ []))

  pub under_append : (u : ℕ) → x < u → Under u ls → Under u (set ls l (get_or ls l [] ++ (x ∷ [])))
  under_append u hx k = omega (arith, sum-append (leb u), ap bit (lt-leb u x hx))

  -- another node stays free
  pub free_append : (y : ℕ) → y ≢ x → Free y ls → Free y (set ls l (get_or ls l [] ++ (x ∷ [])))
  free_append y n f = omega (arith, sum-append (eqb y), ap bit (ne_eqb y x n))

  apart-append : Free x ls → Apart ls → (y : ℕ) → Dec (y ≡ x) → sum_of (occ y) (set ls l (get_or ls l [] ++ (x ∷ []))) ≤ 1
  apart-append free k y (yes e) =
      let f : sum_of (occ y) ls ≡ 0 = rw e free in
      omega (arith, sum-append (eqb y), bit_le (eqb y x))
  apart-append free k y (no e) = omega (arith, sum-append (eqb y), ap bit (ne_eqb y x e), k y)

  pub chains-append : (m : ℕ) → x < m → Free x ls → Chains m ls → Chains m (set ls l (get_or ls l [] ++ (x ∷ [])))
  chains-append m hx free k = record { apart = λ y. apart-append free k.apart y (ℕ_discrete y x); under = under_append m hx k.under }

-- ---- the node at place i of list l goes

module _ (ls : List (List ℕ)) (l i : ℕ) (hl : l < length ls) (hi : i < length (get_or ls l [])) where
  sum-without : (p : ℕ → Bool) → sum_of (count p) (set ls l (without i (get_or ls l []))) + bit (p (get_or (get_or ls l []) i 0)) ≡ sum_of (count p) ls
  sum-without p = omega (arith, sum-set (count p) ls l (without i (get_or ls l [])) [] hl, count-without p (get_or ls l []) i hi)

  pub under_without : (u : ℕ) → Under u ls → Under u (set ls l (without i (get_or ls l [])))
  under_without u k = omega (arith, sum-without (leb u))

  pub chains-without : (m : ℕ) → Chains m ls → Chains m (set ls l (without i (get_or ls l [])))
  chains-without m k = record { apart = λ y. omega (arith, sum-without (eqb y), k.apart y); under = under_without m k.under }

  -- it is in no list then
  pub free_without : Apart ls → Free (get_or (get_or ls l []) i 0) (set ls l (without i (get_or ls l [])))
  free_without k = let y = get_or (get_or ls l []) i 0 in omega (arith, sum-without (eqb y), same_bit y, k y)
