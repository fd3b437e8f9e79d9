-- The comparing is exact: what passes is equal, and what is equal passes.
use Rattle.std.specs.Prelude.{◌≡◌, ℕ, zero, suc, ◌+◌, ◌*◌, ◌^◌, Bool, true, false, not, cond, ◌&&◌, T, List, [], ◌∷◌, ◌++◌, drop, replicate, pos, ◌==◌, nat_eq, nat_lt, to_bits, Float}
use Rattle.std.proofs.Math.Path.{refl}
use Rattle.std.proofs.Common.{sym, ap, ◌∙◌, subst, eq-eqb, eqb-true}
use Rattle.std.specs.Cmp.Lexicographic.{pointwise}
use Rattle.std.specs.Float.{Format, inf, binary64}
use Rattle.std.specs.Float.Ieee.{eq, is_nan, fits, of_bits, of_int, round, units, odd, low, emax, prec}
use Rattle.std.specs.Float.Ieee.Bits.{of_bits-to_bits}
use Rattle.std.specs.Float.Ieee.Fits.{of_int-fits}
use Rattle.script.specs.Sound.{and_left, and_right}
use Rattle.replay.specs.CellLaws.{eq-itself}
use Rattle.replay.specs.Cells.{cells_from, noises, noise_floats, float, like, same, same_floats}

-- ---- lists

abbrev pub Each : {A : Type 0} → (A → Type 0) → List A → Type 0
Each P [] = Unit {0}
Each P (x ∷ xs) = P x × Each P xs

pub each_append : {A : Type 0} (P : A → Type 0) (xs ys : List A) → Each P xs → Each P ys → Each P (xs ++ ys)
each_append P [] ys h g = g
each_append P (x ∷ xs) ys h g = (h.0, each_append P xs ys h.1 g)

pub each_drop : {A : Type 0} (P : A → Type 0) (n : ℕ) (xs : List A) → Each P xs → Each P (drop n xs)
each_drop P zero xs h = h
each_drop P (suc n) [] h = h
each_drop P (suc n) (x ∷ xs) h = each_drop P n xs h.1

pub each_replicate : {A : Type 0} (P : A → Type 0) (n : ℕ) (x : A) → P x → Each P (replicate n x)
each_replicate P zero x h = tt
each_replicate P (suc n) x h = (h, each_replicate P n x h)

pub each_cell : {A : Type 0} (P : A → Type 0) (f : ℕ → A) → ((i : ℕ) → P (f i)) → (i n : ℕ) → Each P (cells_from f i n)
unfolding cells_from
each_cell P f h i zero = tt
each_cell P f h i (suc n) = (h i, each_cell P f h (suc i) n)

-- What numbers are written to: of known cells, such as all that numbers were written to, those that are like one another are the same.
pub record Exactly {A : Type 0} (of : ℕ → A) (like : A → A → Bool) (Known : A → Type 0) : Type 0 where
  pub known : (n : ℕ) → Known (of n)
  pub exact : (x y : A) → Known x → Known y → like x y ≡ true → x ≡ y
  pub itself : (x : A) → Known x → like x x ≡ true

module _ {A : Type 0} {of : ℕ → A} {like : A → A → Bool} {Known : A → Type 0} (c : Exactly of like Known) where
  pub all_exact : (xs ys : List A) → Each Known xs → Each Known ys → pointwise like xs ys ≡ true → xs ≡ ys
  all_exact [] [] h g e = refl
  all_exact [] (y ∷ ys) h g e = absurd (subst T (sym e) tt)
  all_exact (x ∷ xs) [] h g e = absurd (subst T (sym e) tt)
  all_exact (x ∷ xs) (y ∷ ys) h g e =
      let p : x ≡ y = c.exact x y h.0 g.0 (and_left (like x y) (pointwise like xs ys) e) in
      let q : xs ≡ ys = all_exact xs ys h.1 g.1 (and_right (like x y) (pointwise like xs ys) e) in
      rw (p, q)

  pub all_self : (xs : List A) → Each Known xs → pointwise like xs xs ≡ true
  all_self [] h = refl
  all_self (x ∷ xs) h = rw (c.itself x h.0) (all_self xs h.1)

  pub all_known : (n : ℕ) → Each Known (noises of n)
  all_known n = each_cell Known _ (λ i. c.known _) 0 n

-- ---- numbers

abbrev pub Any : ℕ → Type 0
Any x = Unit {0}

pub numbers_alike : Exactly (λ n. n) nat_eq Any
numbers_alike = record { known = λ n. tt; exact = λ x y h g e. eqb-true x y e; itself = λ x h. eq-eqb x x refl }

each_any : (xs : List ℕ) → Each Any xs
each_any [] = tt
each_any (x ∷ xs) = (tt, each_any xs)

pub same_exact : (xs ys : List ℕ) → same xs ys ≡ true → xs ≡ ys
same_exact xs ys e = all_exact numbers_alike xs ys (each_any xs) (each_any ys) e

pub same_self : (xs : List ℕ) → same xs xs ≡ true
same_self xs = all_self numbers_alike xs (each_any xs)

-- ---- floats that are no NaN

pub record Known (x : Float) : Type 0 where
  pub fitting : T (fits binary64 x)
  pub itself : eq x x ≡ true

like_exact : (x y : Float) → Known x → Known y → like x y ≡ true → x ≡ y
unfolding like
like_exact x y h g e =
    let p : to_bits binary64 x ≡ to_bits binary64 y =
    eqb-true (to_bits binary64 x) (to_bits binary64 y) (and_right (eq y y) (to_bits binary64 x == to_bits binary64 y) (and_right (eq x x) (eq y y && to_bits binary64 x == to_bits binary64 y) e)) in
    sym (of_bits-to_bits binary64 x h.fitting) ∙ ap (of_bits binary64) p ∙ of_bits-to_bits binary64 y g.fitting

like_self : (x : Float) → Known x → like x x ≡ true
unfolding like
like_self x h = rw (like, h.itself) (eq-eqb (to_bits binary64 x) (to_bits binary64 x) refl)

-- ---- a whole number as a float

odd_some : (d : ℕ) (s : Bool) (q k l : ℕ) → is_nan (odd d s q k l) ≡ false
unfolding odd is_nan
odd_some d s zero k l = refl
odd_some d s (suc q) k l = refl

cond_some : (b : Bool) (x y : Float) → is_nan x ≡ false → is_nan y ≡ false → is_nan (cond b x y) ≡ false
cond_some true x y h g = h
cond_some false x y h g = g

inf_some : (s : Bool) → is_nan (inf s) ≡ false
unfolding is_nan
inf_some s = refl

units_some : (f : Format) (s : Bool) (q k : ℕ) → is_nan (units f s q k) ≡ false
unfolding units
units_some f s q k = cond_some (nat_lt (q * 2 ^ k) (2 ^ (low f + suc (emax f)))) (odd (suc (prec f)) s q k (low f)) (inf s) (odd_some (suc (prec f)) s q k (low f)) (inf_some s)

round_some : (f : Format) (s : Bool) (num den : ℕ) → is_nan (round f s num den) ≡ false
unfolding round
round_some f s num den = units_some f s _ _

pub known-float : (n : ℕ) → Known (float n)
unfolding of_int
known-float n = record { fitting = of_int-fits binary64 (pos n); itself = eq-itself (float n) ∙ ap not (round_some binary64 false n 1) }

pub floats_alike : Exactly float like Known
floats_alike = record { known = known-float; exact = like_exact; itself = like_self }

pub floats_exact : (xs ys : List Float) → Each Known xs → Each Known ys → same_floats xs ys ≡ true → xs ≡ ys
floats_exact xs ys h g e = all_exact floats_alike xs ys h g e

pub floats_self : (xs : List Float) → Each Known xs → same_floats xs xs ≡ true
floats_self xs h = all_self floats_alike xs h

pub known-noise : (n : ℕ) → Each Known (noise_floats n)
known-noise n = all_known floats_alike n

pub zero-float : of_bits binary64 0 ≡ float 0
unfolding of_int round of_bits
zero-float = refl
