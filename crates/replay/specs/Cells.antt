-- Noise, and the comparing of slices cell by cell.
use Rattle.std.specs.Prelude.{ℕ, zero, suc, ◌+◌, ◌*◌, ◌%◌, Bool, ◌&&◌, List, [], ◌∷◌, pos, ◌==◌, nat_eq, to_bits, Float}
use Rattle.std.specs.Cmp.Lexicographic.{pointwise}
use Rattle.std.specs.Float.{binary64}
use Rattle.std.specs.Float.Ieee.{eq, of_int}

-- n cells from the cell i on, each by its place
unfoldable pub cells_from : {A : Type 0} → (ℕ → A) → ℕ → ℕ → List A
cells_from f i zero = []
cells_from f i (suc n) = f i ∷ cells_from f (suc i) n

-- never 0, and never the same in two cells next to each other
abbrev pub noise : ℕ → ℕ
noise i = i % 65521 * 65537 + 7

abbrev pub float : ℕ → Float
float x = of_int binary64 (pos x)

-- slices of n cells, full of noise: of any cells that numbers are written to, and the two that there are
abbrev pub noises : {A : Type 0} → (ℕ → A) → ℕ → List A
noises of n = cells_from (λ i. of (noise i)) 0 n

abbrev pub noise_cells : ℕ → List ℕ
noise_cells = noises (λ x. x)

abbrev pub noise_floats : ℕ → List Float
noise_floats = noises float

-- ---- comparing

-- bit by bit; a NaN is like nothing
unfoldable pub like : Float → Float → Bool
like x y = eq x x && (eq y y && to_bits binary64 x == to_bits binary64 y)

-- as many cells here as there, and each passes the test with its counterpart
abbrev pub same : List ℕ → List ℕ → Bool
same = pointwise nat_eq

abbrev pub same_floats : List Float → List Float → Bool
same_floats = pointwise like
