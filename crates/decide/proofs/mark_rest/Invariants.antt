use Rattle.decide.specs.Marking.{Marking}
use Rattle.decide.proofs.mark_rest.Given as goal

abbrev pub invariant-loop-l : goal.invariant-loop-l
invariant-loop-l l = Marking l.trail.vars l.part l.fn.marks l.l-index l.marks
