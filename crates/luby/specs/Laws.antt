-- Luby's sequence: both loops end by their tests, and how large a term is.
use Rattle.std.specs.Prelude.{ℕ, zero, suc, ◌≤◌, ◌<◌, ◌-◌, ◌+◌, ◌*◌, ◌/◌, ◌%◌, ◌^◌, ◌≡◌, refl, ◌≢◌}
use Rattle.std.proofs.Common.{sym, ◌∙◌, arith, pow-suc, mod-lt, pow_pos, pow_mono, lt-ltb, le-ltb, eq-eqb, ne_eqb}
use Rattle.std.proofs.Math.Decide.{ℕ_discrete, dec_lt}
use Rattle.std.proofs.Math.Nat.{mod-le}
use Rattle.model.specs.Luby.{climb, descend, luby}

-- a beginning of the sequence has one term less than a power of 2
abbrev pub Whole : ℕ → ℕ → Type 0
Whole seq size = size + 1 ≡ 2 ^ suc seq

-- ---- a turn of each loop, and its end

pub climb_turn : (n size seq x : ℕ) → size < x + 1 → climb (suc n) size seq x ≡ climb n (2 * size + 1) (suc seq) x
unfolding climb
climb_turn n size seq x h = rw (lt-ltb size (x + 1) h, climb)

pub climb_end : (n size seq x : ℕ) → x < size → climb n size seq x ≡ descend seq size x
unfolding climb
climb_end zero size seq x h = refl
climb_end (suc n) size seq x h = rw (le-ltb size (x + 1) (omega arith), climb)

pub descend_turn : (seq size y : ℕ) → size - 1 ≢ y → descend (suc seq) size y ≡ descend seq ((size - 1) / 2) (y % ((size - 1) / 2))
unfolding descend
descend_turn seq size y h = rw (ne_eqb (size - 1) y h, descend)

pub descend_end : (seq size y : ℕ) → size - 1 ≡ y → descend seq size y ≡ seq
unfolding descend
descend_end zero size y h = refl
descend_end (suc seq) size y h = rw (eq-eqb (size - 1) y h, descend)

-- ---- the first loop has turns enough

-- a turn adds a term at least, so any number of turns that reaches past x gives the same
pub climb_fuel : (n m size seq x : ℕ) → x < size + n → x < size + m → climb n size seq x ≡ climb m size seq x
climb_fuel zero m size seq x h k = climb_end zero size seq x (omega arith) ∙ sym (climb_end m size seq x (omega arith))
climb_fuel (suc n) zero size seq x h k = climb_end (suc n) size seq x (omega arith) ∙ sym (climb_end zero size seq x (omega arith))
climb_fuel (suc n) (suc m) size seq x h k = go (climb_fuel n m (2 * size + 1) (suc seq) x (omega arith) (omega arith)) (dec_lt size (x + 1))
  where
    go : climb n (2 * size + 1) (suc seq) x ≡ climb m (2 * size + 1) (suc seq) x → Dec (size < x + 1) → climb (suc n) size seq x ≡ climb (suc m) size seq x
    go ih (yes t) = climb_turn n size seq x t ∙ ih ∙ sym (climb_turn m size seq x t)
    go ih (no t) = climb_end (suc n) size seq x (omega arith) ∙ sym (climb_end (suc m) size seq x (omega arith))

pub climb_enough : (turns x : ℕ) → x ≤ turns → climb turns 1 0 x ≡ climb x 1 0 x
climb_enough turns x h = climb_fuel turns x 1 0 x (omega arith) (omega arith)

-- a turn with the fuel as it was
pub climb_more : (size seq x : ℕ) → 0 < size → size < x + 1 → climb x size seq x ≡ climb x (2 * size + 1) (suc seq) x
climb_more size seq x p h = climb_fuel x (suc x) size seq x (omega arith) (omega arith) ∙ climb_turn x size seq x h

-- ---- the second loop ends by its test

-- a beginning that holds term x
pub record Beginning (x seq size : ℕ) : Type 0 where
  pub whole : Whole seq size
  pub holds : x < size

-- a beginning that holds a term and does not end with it has a half that holds the term's like
pub record Shorter (x seq size half : ℕ) : Type 0 where
  pub more : 0 < seq
  pub pos : 0 < half
  pub rest : Beginning (x % half) (seq - 1) half
  pub same : descend seq size x ≡ descend (seq - 1) half (x % half)

pub shorter : (x seq size : ℕ) → Beginning x seq size → size - 1 ≢ x → Shorter x seq size ((size - 1) / 2)
shorter x zero size b h = absurd (h (omega arith))
shorter x (suc m) size b h =
    let q : 2 ^ suc (suc m) ≡ 2 ^ suc m * 2 = pow-suc 2 (suc m) in
    let r : 2 ^ suc m ≡ 2 ^ m * 2 = pow-suc 2 m in
    let p : 0 < (size - 1) / 2 = omega (arith, pow_pos m) in
    let e : suc m - 1 ≡ m = omega arith in
    record { more = omega arith; pos = p; rest = record { whole = rw e (omega arith); holds = mod-lt x p }; same = rw e (descend_turn m size x h) }

-- the loop by its turns: it goes on where the test fails, and `seq` is the exponent where the test holds
pub data Ends : ℕ → ℕ → ℕ → ℕ → Type 0 where
  found : {seq size x : ℕ} → size - 1 ≡ x → Ends seq size x seq
  turn : {seq size x e : ℕ} → size - 1 ≢ x → Ends seq ((size - 1) / 2) (x % ((size - 1) / 2)) e → Ends (suc seq) size x e

pub descend_ends : (seq size x : ℕ) → Beginning x seq size → Ends seq size x (descend seq size x)
descend_ends zero size x b = let h : size - 1 ≡ x = omega arith in rw (descend_end zero size x h) (found h)
descend_ends (suc seq) size x b = go (λ s. descend_ends seq ((size - 1) / 2) (x % ((size - 1) / 2)) s) (ℕ_discrete (size - 1) x)
  where
    go : (Beginning (x % ((size - 1) / 2)) seq ((size - 1) / 2) → Ends seq ((size - 1) / 2) (x % ((size - 1) / 2)) (descend seq ((size - 1) / 2) (x % ((size - 1) / 2))))
        → Dec (size - 1 ≡ x) → Ends (suc seq) size x (descend (suc seq) size x)
    go ih (yes h) = rw (descend_end (suc seq) size x h) (found h)
    go ih (no h) =
        let e : suc seq - 1 ≡ seq = omega arith in
        rw (descend_turn seq size x h) (turn h (ih (rw e at (shorter x (suc seq) size b h).rest)))

-- ---- both loops

-- where the first loop stops, from any of its turns
pub record Climbed (x seq size e : ℕ) : Type 0 where
  pub beginning : Beginning x seq size
  pub finds : descend seq size x ≡ e

pub twice : (seq size : ℕ) → Whole seq size → Whole (suc seq) (2 * size + 1)
twice seq size h = omega (arith, pow-suc 2 (suc seq))

climb_stops : (n size seq x : ℕ) → Whole seq size → x < size + n → (q : ℕ) × (s : ℕ) × Climbed x q s (climb n size seq x)
climb_stops zero size seq x w h = (seq, size, record { beginning = record { whole = w; holds = omega arith }; finds = sym (climb_end zero size seq x (omega arith)) })
climb_stops (suc n) size seq x w h = go (climb_stops n (2 * size + 1) (suc seq) x (twice seq size w) (omega arith)) (dec_lt size (x + 1))
  where
    go : (q : ℕ) × (s : ℕ) × Climbed x q s (climb n (2 * size + 1) (suc seq) x) → Dec (size < x + 1) → (q : ℕ) × (s : ℕ) × Climbed x q s (climb (suc n) size seq x)
    go ih (yes t) = (ih.0, ih.1, record { beginning = ih.2.beginning; finds = ih.2.finds ∙ sym (climb_turn n size seq x t) })
    go ih (no t) = (seq, size, record { beginning = record { whole = w; holds = omega arith }; finds = sym (climb_end (suc n) size seq x (omega arith)) })

-- the exponent of term x is what the second loop ends with, from a beginning that holds the term
pub climb_ends : (x : ℕ) → (seq : ℕ) × (size : ℕ) × Beginning x seq size × Ends seq size x (climb x 1 0 x)
climb_ends x =
    let c = climb_stops x 1 0 x refl (omega arith) in
    let e = descend_ends c.0 c.1 x c.2.beginning in
    (c.0, c.1, c.2.beginning, rw c.2.finds at e)

-- ---- bounds of a term

ends_low : {seq size x e : ℕ} → Beginning x seq size → Ends seq size x e → 2 * 2 ^ e ≤ x + 2
ends_low b (found {seq} {size} {x} h) = omega (arith, pow-suc 2 seq)
ends_low b (turn {seq} {size} {x} {e} h t) =
    let p : suc seq - 1 ≡ seq = omega arith in
    omega (arith, ends_low (rw p at (shorter x (suc seq) size b h).rest) t, mod-le x ((size - 1) / 2))

-- term x is at most half of x + 2, and reaches that where a beginning ends
pub luby_half : (x : ℕ) → 2 * luby x ≤ x + 2
unfolding luby
luby_half x = let c = climb_ends x in ends_low c.2 c.3

pub luby_pos : (x : ℕ) → 1 ≤ luby x
unfolding luby
luby_pos x = pow_pos (climb x 1 0 x)

pub luby_low : (x : ℕ) → luby x ≤ x + 1
luby_low x = omega (arith, luby_half x)

pub luby_le : (x : ℕ) → x < 131072 → luby x ≤ 65536
luby_le x h = omega (arith, luby_half x)

-- what the code promises of term x
pub record Term (x r : ℕ) : Type 0 where
  pub value : r ≡ luby x
  pub pos : 1 ≤ r
  pub small : r ≤ 65536

pub exponent_lt : (x : ℕ) → x < 131072 → climb x 1 0 x < 17
unfolding luby
exponent_lt x h = go (dec_lt (climb x 1 0 x) 17)
  where
    go : Dec (climb x 1 0 x < 17) → climb x 1 0 x < 17
    go (yes l) = l
    go (no l) =
        let g : 17 ≤ climb x 1 0 x = omega arith in
        absurd (omega (arith, luby_le x h, pow_mono g))

-- the code's shift
pub shifted : (x e : ℕ) → x < 131072 → e ≡ climb x 1 0 x → Term x (1 * 2 ^ e % 4294967296)
unfolding luby
shifted x e h q =
    let l : 2 ^ climb x 1 0 x ≤ 65536 = luby_le x h in
    let v : 1 * 2 ^ e % 4294967296 ≡ 2 ^ climb x 1 0 x = rw q (omega arith) in
    record { value = v; pos = rw v (luby_pos x); small = rw v l }
