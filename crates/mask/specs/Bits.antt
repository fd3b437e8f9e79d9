-- Masks of levels: the mask of a clause has the bit of each of its levels, and with all 32 bits every level passes.
use Rattle.std.specs.Prelude.{ℕ, ◌-◌, ◌^◌}

-- ---- the test of the mask

-- how many bits a mask has, and the mask with every bit
abbrev pub bits : ℕ
bits = 32

abbrev pub full : ℕ
full = 2 ^ bits - 1
