-- The numbers of modes and phases in a header.
use Rattle.std.specs.Prelude.{ℕ, zero, suc}
use Rattle.options.specs.declared.Mode.{Mode}
use Rattle.options.specs.declared.Mode.TheVariants.{Keep, Retain, Minimise}
use Rattle.options.specs.declared.Phase.{Phase}
use Rattle.options.specs.declared.Phase.TheVariants.{Unsaved, Limited, Full}

abbrev pub mode_number : Mode → ℕ
mode_number Keep = 0
mode_number Retain = 1
mode_number Minimise = 2

-- any number over 2 is as 1
abbrev pub mode_of : ℕ → Mode
mode_of zero = Keep
mode_of (suc zero) = Retain
mode_of (suc (suc zero)) = Minimise
mode_of (suc (suc (suc n))) = Retain

abbrev pub phase_number : Phase → ℕ
phase_number Unsaved = 0
phase_number Limited = 1
phase_number Full = 2

-- any number over 2 is as 2
abbrev pub phase_of : ℕ → Phase
phase_of zero = Unsaved
phase_of (suc zero) = Limited
phase_of (suc (suc n)) = Full
