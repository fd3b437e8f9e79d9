-- Slices filled with noise, and compared.
use Rattle.std.specs.Prelude.{◌≡◌, ℕ, zero, suc, ◌+◌, ◌/◌, ◌<◌, ◌≤◌, Bool, true, false, not, ◌&&◌, List, [], ◌∷◌, ◌++◌, length, take, drop, replicate, ◌==◌, ◌≢◌, slice_index_or, nat_eq, to_bits, refl, Float}
use Rattle.std.specs.Cmp.Lexicographic.{pointwise}
use Rattle.std.specs.List.{list_all, enumerate_from, starts_with}
use Rattle.std.specs.Float.{binary64, nan, inf, fin}
use Rattle.std.specs.Bool.{beq}
use Rattle.std.specs.Float.Ieee.{eq, is_nan}
use Rattle.std.proofs.Common.{sym, ap, ◌∙◌, arith, eq-eqb, length-append, length-take, length-take-le, ext_get_or}
use Rattle.std.proofs.Math.Bool.{and_assoc}
use Rattle.std.proofs.Math.Decide.{dec_lt}
use Rattle.std.proofs.Math.Numerals.{add-one}
use Rattle.std.proofs.lemmas.List.{take-append-drop, length-replicate}
use lib.Pointwise.{pointwise_long}
use Rattle.std.proofs.lemmas.Cmp.{nat_list_eq_equiv}
use Rattle.replay.specs.Cells.{cells_from, noise, like, same}

-- ---- noise is seen: it is never 0, and no two cells next to each other hold the same

pub noise_some : (i : ℕ) → noise i ≢ 0
noise_some i e = omega arith

pub noise_turns : (i : ℕ) → noise i ≢ noise (i + 1)
noise_turns i e = go (dec_lt (i / 65521) ((i + 1) / 65521))
  where
    go : Dec (i / 65521 < (i + 1) / 65521) → ⊥
    go (yes h) = omega arith
    go (no h) = omega arith

-- ---- cells by their places

pub length-cells : {A : Type 0} (f : ℕ → A) (i n : ℕ) → length (cells_from f i n) ≡ n
unfolding cells_from
length-cells f i zero = refl
length-cells f i (suc n) = ap suc (length-cells f (suc i) n)

get_or-cells_from : {A : Type 0} (f : ℕ → A) (d : A) (i n k : ℕ) → k < n → slice_index_or (cells_from f i n) k d ≡ f (i + k)
unfolding cells_from
get_or-cells_from f d i zero k h = absurd (omega arith)
get_or-cells_from f d i (suc n) zero h = let e : i + 0 ≡ i = omega arith in ap f (sym e)
get_or-cells_from f d i (suc n) (suc k) h = let e : suc i + k ≡ i + suc k = omega arith in get_or-cells_from f d (suc i) n k (omega arith) ∙ ap f e

pub get_or-cells : {A : Type 0} (f : ℕ → A) (d : A) (n k : ℕ) → k < n → slice_index_or (cells_from f 0 n) k d ≡ f k
get_or-cells f d n k h = let e : 0 + k ≡ k = omega arith in get_or-cells_from f d 0 n k h ∙ ap f e

-- the first i cells are by their places
abbrev pub Filled : {A : Type 0} → (ℕ → A) → A → List A → ℕ → Type 0
Filled f d s i = (k : ℕ) → k < i → slice_index_or s k d ≡ f k

pub filled-all : {A : Type 0} (f : ℕ → A) (d : A) (s : List A) (i n : ℕ) → length s ≤ i → length s ≡ n → Filled f d s i → s ≡ cells_from f 0 n
filled-all f d s i n h e g =
    ext_get_or d s (cells_from f 0 n) (e ∙ sym (length-cells f 0 n)) (λ k l. g k (omega arith) ∙ sym (get_or-cells f d n k (omega arith)))

-- ---- tests, one after the other

pub and_first : (a b : Bool) → a ≡ false → false ≡ (a && b)
and_first a b e = rw e

pub and_next : (a b r : Bool) → a ≡ true → r ≡ b → r ≡ (a && b)
and_next a b r e f = rw (e, f)

-- ---- a slice compared part by part

module _ {A : Type 0} (E : A → A → Bool) where
  pointwise_append : (xs ys us vs : List A) → length xs ≡ length us → pointwise E (xs ++ ys) (us ++ vs) ≡ (pointwise E xs us && pointwise E ys vs)
  pointwise_append [] ys [] vs h = refl
  pointwise_append [] ys (u ∷ us) vs h = absurd (omega (arith, h))
  pointwise_append (x ∷ xs) ys [] vs h = absurd (omega (arith, h))
  pointwise_append (x ∷ xs) ys (u ∷ us) vs h =
      let n : length xs ≡ length us = omega (arith, h) in
      ap (λ (b : Bool). E x u && b) (pointwise_append xs ys us vs n) ∙ sym (and_assoc (E x u) (pointwise E xs us) (pointwise E ys vs))

  -- a slice against one that begins with these cells: as many as begin it, and what is behind
  over_parts : (s first rest : List A) → length first ≤ length s
      → pointwise E s (first ++ rest) ≡ (pointwise E (take (length first) s) first && pointwise E (drop (length first) s) rest)
  over_parts s first rest h =
      let n = length first in
      ap (λ (l : List A). pointwise E l (first ++ rest)) (sym (take-append-drop n s))
      ∙ pointwise_append (take n s) (drop n s) first rest (length-take-le n s h)

  over_long : (s first rest : List A) → length s < length first → pointwise E s (first ++ rest) ≡ false
  over_long s first rest h = go (pointwise E s (first ++ rest)) refl
    where
      go : (b : Bool) → pointwise E s (first ++ rest) ≡ b → b ≡ false
      go true e = absurd (omega (arith, h, pointwise_long E s (first ++ rest) e, length-append first rest))
      go false e = refl

  pointwise_replicate : (xs : List A) (z : A) → pointwise E xs (replicate (length xs) z) ≡ list_all (λ x. E x z) xs
  pointwise_replicate [] z = refl
  pointwise_replicate (x ∷ xs) z = ap (λ (b : Bool). E x z && b) (pointwise_replicate xs z)

  -- so many of the same, and what is behind
  pub clear_parts : (s : List A) (n : ℕ) (z : A) (rest : List A) → n ≤ length s
      → pointwise E s (replicate n z ++ rest) ≡ (list_all (λ x. E x z) (take n s) && pointwise E (drop n s) rest)
  clear_parts s n z rest h =
      let e : length (take n s) ≡ n = length-take-le n s h in
      ap (λ (l : List A). pointwise E l (replicate n z ++ rest)) (sym (take-append-drop n s))
      ∙ pointwise_append (take n s) (drop n s) (replicate n z) rest (e ∙ sym (length-replicate n z))
      ∙ ap (λ (b : Bool). b && pointwise E (drop n s) rest) (ap (λ (k : ℕ). pointwise E (take n s) (replicate k z)) (sym e) ∙ pointwise_replicate (take n s) z)

  pub clear_long : (s : List A) (n : ℕ) (z : A) (rest : List A) → length s < n → pointwise E s (replicate n z ++ rest) ≡ false
  clear_long s n z rest h = over_long s (replicate n z) rest (omega (arith, h, length-replicate n z))

  -- each cell against the one of its place
  placed_all : (f : ℕ → A) (i : ℕ) (s : List A) → list_all (λ p. E p.1 (f p.0)) (enumerate_from i s) ≡ pointwise E s (cells_from f i (length s))
  unfolding cells_from
  placed_all f i [] = refl
  placed_all f i (x ∷ xs) = ap (λ (b : Bool). E x (f i) && b) (ap (λ (j : ℕ). list_all (λ p. E p.1 (f p.0)) (enumerate_from j xs)) (add-one i) ∙ placed_all f (suc i) xs)

  pub placed : (f : ℕ → A) (n i : ℕ) (s : List A)
      → list_all (λ p. E p.1 (f p.0)) (drop n (enumerate_from i s)) ≡ pointwise E (drop n s) (drop n (cells_from f i (length s)))
  unfolding cells_from
  placed f zero i s = placed_all f i s
  placed f (suc n) i [] = refl
  placed f (suc n) i (x ∷ xs) =
      ap (λ (j : ℕ). list_all (λ p. E p.1 (f p.0)) (drop n (enumerate_from j xs))) (add-one i) ∙ placed f n (suc i) xs

-- a slice of numbers against one that begins with these
pub begins : (s first rest : List ℕ) → same s (first ++ rest) ≡ (starts_with nat_eq s first && same (drop (length first) s) rest)
begins s first rest = go (dec_lt (length s) (length first))
  where
    n : ℕ
    n = length first

    turn : pointwise nat_eq (take n s) first ≡ starts_with nat_eq s first
    turn = nat_list_eq_equiv.symm (take n s) first

    short : length s < n → (b : Bool) → pointwise nat_eq (take n s) first ≡ b → b ≡ false
    short h true e = absurd (omega (arith, h, pointwise_long nat_eq (take n s) first e, length-take n s))
    short h false e = refl

    go : Dec (length s < n) → same s (first ++ rest) ≡ (starts_with nat_eq s first && same (drop n s) rest)
    go (yes h) = over_long nat_eq s first rest h ∙ and_first (starts_with nat_eq s first) (same (drop n s) rest) (sym turn ∙ short h (pointwise nat_eq (take n s) first) refl)
    go (no h) = over_parts nat_eq s first rest (omega arith) ∙ ap (λ (b : Bool). b && same (drop n s) rest) turn

-- ---- floats

beq_self : (s : Bool) → beq s s ≡ true
beq_self true = refl
beq_self false = refl

-- a NaN alone differs from itself
pub eq-itself : (x : Float) → eq x x ≡ not (is_nan x)
unfolding eq is_nan
eq-itself nan = refl
eq-itself (inf s) = beq_self s
eq-itself (fin s m d) = rw (eq-eqb _ _ refl, beq_self s)

pub like_is : (x y : Float) → like x y ≡ (not (is_nan x) && (not (is_nan y) && to_bits binary64 x == to_bits binary64 y))
unfolding like
like_is x y = rw (like, eq-itself x, eq-itself y)
