use Rattle.intake.specs.Simplifying.{Simplifying}
use Rattle.intake.proofs.simplify.Given as goal

abbrev pub invariant-loop-i : goal.invariant-loop-i
invariant-loop-i l = Simplifying l.trail l.fn.buffer l.buffer l.i l.kept l.last.0
