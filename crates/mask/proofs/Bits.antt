-- Masks of levels: the mask of a clause has the bit of each of its levels, and with all 32 bits every level passes.
use Rattle.std.specs.Prelude.{◌≡◌, Bool, true, not, ℕ, suc, zero, ◌-◌, ◌/◌, ◌%◌, ◌^◌, ◌≤◌, ◌<◌, min, eqb}
use Rattle.std.proofs.Common.{sym, ◌∙◌, arith, ne_eqb}
use Rattle.std.proofs.Math.Path.{ap}
use mathlib.Core.List.Memᴰ.{head as here}
use mathlib.Core.List.Memᴰ.{not-nil}
use mathlib.Core.List.Memᴰ.{tail as there}
use mathlib.Core.List.{List, [], ◌∷◌}
use Rattle.std.specs.Int.Bits.{bit_and, bit_or, and_step, or_step, and_zero_l, and_self}
use Rattle.std.proofs.lemmas.Nat.{and_mask, or_comm}
use Rattle.model.specs.Lit.{abstract_level}
use Rattle.model.specs.State.{VarState, level_lit}
use Rattle.model.specs.Minimise.{abstract_levels}
use Rattle.lawbase.specs.Basics.{◌∈◌, same?, split}
use Rattle.mask.specs.Bits.{full, bits}

-- ---- a bit that is in stays in

or_more : (turns a m b : ℕ) → a ≤ turns → bit_and a m ≤ bit_and a (bit_or m b)
or_more zero a m b h =
    let e : a ≡ 0 = omega arith in
    rw (e, and_zero_l m) (omega arith)
or_more (suc turns) a m b h =
    let r = or_more turns (a / 2) (m / 2) (b / 2) (omega arith) in
    let q : bit_and (a / 2) (bit_or m b / 2) ≡ bit_and (a / 2) (bit_or (m / 2) (b / 2)) = ap (bit_and (a / 2)) (omega (arith, or_step m b)) in
    let l : min (a % 2) (m % 2) ≤ min (a % 2) (bit_or m b % 2) = omega (arith, or_step m b) in
    omega (arith, r, q, l, and_step a m, and_step a (bit_or m b))

or_keeps : (a m b : ℕ) → 0 < bit_and a m → 0 < bit_and a (bit_or m b)
or_keeps a m b h = omega (arith, or_more a a m b (omega arith))

or_has : (a m : ℕ) → 0 < a → 0 < bit_and a (bit_or m a)
or_has a m h = rw (or_comm m a) (or_keeps a a m (rw (and_self a) h))

power_some : (k : ℕ) → 0 < 2 ^ k
power_some zero = omega arith
power_some (suc k) = omega (arith, power_some k)

power_most : (k x : ℕ) → k ≤ x → 2 ^ k ≤ 2 ^ x
power_most k zero h = let e : k ≡ 0 = omega arith in rw e (omega arith)
power_most k (suc x) h = split (same? k (suc x)) (λ e. rw e (omega arith)) (λ ne. omega (arith, power_most k x (omega arith)))

bit_some : (level : ℕ) → 0 < abstract_level level
bit_some level = power_some (level % 32)

-- ---- the test of the mask

module _ (vs : VarState) where
  -- l's level is one of the mask's, as far as the mask tells
  abbrev pub passes : ℕ → ℕ → Bool
  passes mask l = not (eqb (bit_and (abstract_level (level_lit vs l)) mask) 0)

  pub bit-passes : (mask l : ℕ) → 0 < bit_and (abstract_level (level_lit vs l)) mask → passes mask l ≡ true
  bit-passes mask l h = ap not (ne_eqb (bit_and (abstract_level (level_lit vs l)) mask) 0 (omega arith))

  levels_keep : (a mask : ℕ) (ls : List ℕ) → 0 < bit_and a mask → 0 < bit_and a (abstract_levels vs mask ls)
  unfolding abstract_levels
  levels_keep a mask [] h = h
  levels_keep a mask (l ∷ ls) h =
      levels_keep a (bit_or mask (abstract_level (level_lit vs l))) ls (or_keeps a mask (abstract_level (level_lit vs l)) h)

  pub levels_in : (level mask : ℕ) (ls : List ℕ) (b : ℕ) → b ∈ ls → level_lit vs b ≡ level → 0 < bit_and (abstract_level level) (abstract_levels vs mask ls)
  unfolding abstract_levels
  levels_in level mask [] b i e = absurd (not-nil i)
  levels_in level mask (l ∷ ls) b (here q) e =
      let k : level_lit vs l ≡ level = ap (level_lit vs) (sym q) ∙ e in
      levels_keep (abstract_level level) (bit_or mask (abstract_level (level_lit vs l))) ls (rw k (or_has (abstract_level level) mask (bit_some level)))
  levels_in level mask (l ∷ ls) b (there i) e = levels_in level (bit_or mask (abstract_level (level_lit vs l))) ls b i e

  pub full_passes : (l : ℕ) → passes full l ≡ true
  full_passes l =
      let k = level_lit vs l % 32 in
      bit-passes full l (omega (arith, and_mask (2 ^ k) bits, power_some k, power_most k (bits - 1) (omega arith)))
