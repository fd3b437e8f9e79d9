-- What any number chooses is what the mode or the phase made of it does.
use Rattle.std.specs.Prelude.{ℕ, zero, suc, ◌≤◌, ◌≡◌, refl, List}
use Rattle.std.proofs.Common.{arith, ne_eqb}
use Rattle.model.specs.Limits.{max_mode, max_phase}
use Rattle.model.specs.State.{Store, VarState, State}
use Rattle.model.specs.Trail.{saved_part, cancel_until}
use Rattle.model.specs.Minimise.{minimize_conflict}
use Rattle.options.specs.Numbers.{mode_number, mode_of, phase_number, phase_of}

-- a header's number is kept
pub mode-number : (n : ℕ) → n ≤ max_mode → mode_number (mode_of n) ≡ n
mode-number zero h = refl
mode-number (suc zero) h = refl
mode-number (suc (suc zero)) h = refl
mode-number (suc (suc (suc n))) h = omega arith

pub phase-number : (n : ℕ) → n ≤ max_phase → phase_number (phase_of n) ≡ n
phase-number zero h = refl
phase-number (suc zero) h = refl
phase-number (suc (suc n)) h = omega arith

pub minimised_as : (n : ℕ) (st : Store) (vs : VarState) (ls seen : List ℕ)
    → minimize_conflict (mode_number (mode_of n)) st vs ls seen ≡ minimize_conflict n st vs ls seen
unfolding minimize_conflict
minimised_as zero st vs ls seen = refl
minimised_as (suc zero) st vs ls seen = refl
minimised_as (suc (suc zero)) st vs ls seen = refl
minimised_as (suc (suc (suc n))) st vs ls seen = rw (ne_eqb (suc (suc (suc n))) 2 (omega arith), minimize_conflict)

pub saved_as : (n : ℕ) (vs : VarState) (level : ℕ) → saved_part (phase_number (phase_of n)) vs level ≡ saved_part n vs level
unfolding saved_part
saved_as zero vs level = refl
saved_as (suc zero) vs level = refl
saved_as (suc (suc n)) vs level = refl

pub back_as : (n : ℕ) (s : State) (level : ℕ) → cancel_until (phase_number (phase_of n)) s level ≡ cancel_until n s level
unfolding cancel_until saved_part
back_as zero s level = refl
back_as (suc zero) s level = refl
back_as (suc (suc n)) s level = refl
