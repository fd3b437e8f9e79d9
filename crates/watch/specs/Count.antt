-- How many elements of a list pass a test.
use Rattle.std.specs.Prelude.{ℕ, zero, suc, ◌+◌, ◌≤◌, ◌<◌, Bool, true, false, ◌≡◌, refl, ◌≢◌, List, [], ◌∷◌, ◌++◌, length, get_or, take, drop, eqb, leb}
use Rattle.std.proofs.Common.{arith, not-suc-le-zero, sym, ap, eq-eqb, ne_eqb, eqb-true, le-leb, leb-true}
use Rattle.std.proofs.Math.Decide.{ℕ_discrete, dec_le}
use Rattle.std.proofs.lemmas.Bool.{lt-leb}
use Rattle.region.specs.Table.{sum_of}

abbrev pub bit : Bool → ℕ
bit true = 1
bit false = 0

abbrev pub count : (ℕ → Bool) → List ℕ → ℕ
count p [] = 0
count p (x ∷ xs) = bit (p x) + count p xs

-- how often y occurs; how many are n or more
abbrev pub occ : ℕ → List ℕ → ℕ
occ y = count (eqb y)

abbrev pub over : ℕ → List ℕ → ℕ
over n = count (leb n)

pub bit_le : (b : Bool) → bit b ≤ 1
bit_le true = omega arith
bit_le false = omega arith

pub bit-zero : (b : Bool) → bit b ≡ 0 → b ≡ false
bit-zero true e = absurd (omega arith)
bit-zero false e = refl

pub bit_imp : (b c : Bool) → (b ≡ true → c ≡ true) → bit b ≤ bit c
bit_imp true c h = rw (h refl) (omega arith)
bit_imp false c h = omega arith

pub same_bit : (y : ℕ) → bit (eqb y y) ≡ 1
same_bit y = ap bit (eq-eqb y y refl)

pub count-append : (p : ℕ → Bool) (xs ys : List ℕ) → count p (xs ++ ys) ≡ count p xs + count p ys
count-append p [] ys = omega arith
count-append p (x ∷ xs) ys = omega (arith, count-append p xs ys)

-- an element that passes counts
pub count_at : (p : ℕ → Bool) (xs : List ℕ) (i : ℕ) → i < length xs → bit (p (get_or xs i 0)) ≤ count p xs
count_at p [] i h = absurd (not-suc-le-zero h)
count_at p (x ∷ xs) zero h = omega arith
count_at p (x ∷ xs) (suc i) h = omega (arith, count_at p xs i (omega arith))

pub count-without : (p : ℕ → Bool) (xs : List ℕ) (i : ℕ) → i < length xs → count p (take i xs ++ drop (suc i) xs) + bit (p (get_or xs i 0)) ≡ count p xs
count-without p [] i h = absurd (not-suc-le-zero h)
count-without p (x ∷ xs) zero h = omega arith
count-without p (x ∷ xs) (suc i) h = omega (arith, count-without p xs i (omega arith))

pub count_imp : (p q : ℕ → Bool) → ((y : ℕ) → p y ≡ true → q y ≡ true) → (xs : List ℕ) → count p xs ≤ count q xs
count_imp p q h [] = omega arith
count_imp p q h (x ∷ xs) = omega (arith, bit_imp (p x) (q x) (h x), count_imp p q h xs)

-- a node differs from one that does not occur
pub not_here : (y x : ℕ) (xs : List ℕ) → occ y (x ∷ xs) ≡ 0 → x ≢ y
not_here y x xs e q = let one : bit (eqb y x) ≡ 1 = ap bit (eq-eqb y x (sym q)) in omega arith

-- y stands at i, so it occurs
pub occ_at : (xs : List ℕ) (i : ℕ) → i < length xs → 1 ≤ occ (get_or xs i 0) xs
occ_at xs i h =
    let y = get_or xs i 0 in
    omega (arith, same_bit y, count_at (eqb y) xs i h)

pub sum_le : {A : Type 0} (f g : A → ℕ) → ((a : A) → f a ≤ g a) → (xs : List A) → sum_of f xs ≤ sum_of g xs
sum_le f g h [] = omega arith
sum_le f g h (x ∷ xs) = omega (arith, h x, sum_le f g h xs)

pub over_less : (m n : ℕ) → m ≤ n → (xs : List ℕ) → over n xs ≤ over m xs
over_less m n h = count_imp (leb n) (leb m) (λ y e. le-leb m y (omega (arith, leb-true n y e)))

pub occ_over : (m y : ℕ) → m ≤ y → (xs : List ℕ) → occ y xs ≤ over m xs
occ_over m y h = count_imp (eqb y) (leb m) (λ z e. le-leb m z (omega (arith, eqb-true y z e)))

-- ---- different numbers below m are at most m

one_up : (m x : ℕ) → bit (leb m x) ≡ bit (leb (suc m) x) + bit (eqb m x)
one_up m x = go (ℕ_discrete m x) (dec_le m x)
  where
    go : Dec (m ≡ x) → Dec (m ≤ x) → bit (leb m x) ≡ bit (leb (suc m) x) + bit (eqb m x)
    go (yes e) h = omega (arith, ap bit (le-leb m x (omega arith)), ap bit (lt-leb (suc m) x (omega arith)), ap bit (eq-eqb m x e))
    go (no e) (yes h) = omega (arith, ap bit (le-leb m x h), ap bit (le-leb (suc m) x (omega arith)), ap bit (ne_eqb m x e))
    go (no e) (no h) = omega (arith, ap bit (lt-leb m x (omega arith)), ap bit (lt-leb (suc m) x (omega arith)), ap bit (ne_eqb m x e))

over_up : (m : ℕ) (xs : List ℕ) → over m xs ≡ over (suc m) xs + occ m xs
over_up m [] = omega arith
over_up m (x ∷ xs) = omega (arith, one_up m x, over_up m xs)

sum_up : (m : ℕ) (ls : List (List ℕ)) → sum_of (over m) ls ≡ sum_of (over (suc m)) ls + sum_of (occ m) ls
sum_up m [] = omega arith
sum_up m (xs ∷ ls) = omega (arith, over_up m xs, sum_up m ls)

over_all : (xs : List ℕ) → over 0 xs ≡ length xs
over_all [] = refl
over_all (x ∷ xs) = omega (arith, ap bit (le-leb 0 x (omega arith)), over_all xs)

sum-all : (ls : List (List ℕ)) → sum_of (over 0) ls ≡ sum_of length ls
sum-all [] = refl
sum-all (xs ∷ ls) = omega (arith, over_all xs, sum-all ls)

module _ (ls : List (List ℕ)) (apart : (y : ℕ) → sum_of (occ y) ls ≤ 1) where
  below : (m : ℕ) → sum_of (over 0) ls ≤ sum_of (over m) ls + m
  below zero = omega arith
  below (suc m) = omega (arith, below m, sum_up m ls, apart m)

  pub sum_most : (m : ℕ) → sum_of (over m) ls ≡ 0 → sum_of length ls ≤ m
  sum_most m z = omega (arith, below m, sum-all ls)

  below_one : (x : ℕ) → sum_of (occ x) ls ≡ 0 → (m : ℕ) → x < m → sum_of (over 0) ls < sum_of (over m) ls + m
  below_one x f zero h = absurd (not-suc-le-zero h)
  below_one x f (suc m) h = go (λ g. below_one x f m g) (ℕ_discrete x m)
    where
      go : (x < m → sum_of (over 0) ls < sum_of (over m) ls + m) → Dec (x ≡ m) → sum_of (over 0) ls < sum_of (over (suc m)) ls + suc m
      go r (yes e) = let z : sum_of (occ m) ls ≡ 0 = rw (← e) f in omega (arith, below m, sum_up m ls)
      go r (no e) = omega (arith, r (omega arith), sum_up m ls, apart m)

  -- one below m is missing
  pub sum_fewer : (x m : ℕ) → sum_of (occ x) ls ≡ 0 → x < m → sum_of (over m) ls ≡ 0 → sum_of length ls < m
  sum_fewer x m f h z = omega (arith, below_one x f m h, sum-all ls)
