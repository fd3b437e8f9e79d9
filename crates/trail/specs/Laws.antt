-- How long the lists are that a trail holds, and after each of its functions.
use Rattle.std.specs.Prelude.{ℕ, ◌+◌, ◌<◌, ◌≡◌, refl, [], ◌∷◌, length}
use Rattle.std.proofs.Common.{arith, length-append}
use Rattle.std.proofs.Math.Seq.{length-take-le}
use Rattle.model.specs.State.{decision_level, initial_state}
use Rattle.model.specs.Trail.{unchecked_enqueue, new_decision_level, vars_until, level_end}
use Rattle.options.specs.Numbers.{phase_number, phase_of}
use Rattle.options.proofs.Chosen.{saved_as}
use Rattle.trail.specs.View.{Assignment, Counted, Undoable, initial_assignment, enqueued, next_level, until}
use Rattle.trail.specs.Inside.{shown, Kept}
use Rattle.trail.specs.declared.Trail.TheInside.{Inside}

-- the counts are the lists' lengths
module _ (t : Inside) (k : Kept t) where
  pub trail_length : length (shown t).vars.trail ≡ t.assigned
  trail_length = length-take-le t.assigned t.literals.now (rw k.literals k.assigned)

  pub limits-length : length (shown t).vars.limits ≡ t.depth
  limits-length = length-take-le t.depth t.limits.now (rw k.limits k.depth)

  pub counted : (a : Assignment) → shown t ≡ a → Counted a t.assigned t.depth
  counted a e = rw (← e) (record { assigned = trail_length; levels = limits-length })

pub after_new : (n : ℕ) (a : Assignment) → Counted (initial_assignment n a) 0 0
unfolding initial_state
after_new n a = record { assigned = refl; levels = refl }

module _ (a : Assignment) where
  pub after_enqueue : (p from : ℕ) → Counted (enqueued a p from) (length a.vars.trail + 1) (decision_level a.vars)
  unfolding unchecked_enqueue
  after_enqueue p from = record { assigned = length-append a.vars.trail (p ∷ []); levels = refl }

  pub after_level : Counted (next_level a) (length a.vars.trail) (decision_level a.vars + 1)
  unfolding new_decision_level
  after_level = record { assigned = refl; levels = length-append a.vars.limits (length a.vars.trail ∷ []) }

  pub after_until : {n : ℕ} (phase level : ℕ) → level < decision_level a.vars → Undoable n a.vars level → Counted (until phase a level) (level_end a.vars level) level
  unfolding vars_until
  after_until phase level g u =
      record {
        assigned = length-take-le (level_end a.vars level) a.vars.trail u.within;
        levels = length-take-le level a.vars.limits (omega arith);
      }

-- the way back by any number is that by the phase made of it
pub until_as : (n : ℕ) (a : Assignment) (level : ℕ) → until (phase_number (phase_of n)) a level ≡ until n a level
until_as n a level = rw (saved_as n a.vars level)
