use Rattle.std.proofs.Common.{length}
use Rattle.options.specs.Numbers.{phase_number}
use Rattle.trail.specs.Back.{Undoing}
use Rattle.trail.proofs.Trail.cancel_until.Given as goal

abbrev pub invariant-loop-self : goal.invariant-loop-self
invariant-loop-self l = Undoing l.initial.self (phase_number l.phase) l.last l.at l.self

abbrev pub decreases-loop-self : goal.decreases-loop-self
decreases-loop-self l = length l.self.vars.trail
