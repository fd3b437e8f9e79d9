use Rattle.propagate.specs.View.{left}
use Rattle.propagate.specs.Loops.{Visiting}
use Rattle.propagate.proofs.visit.Given as goal

abbrev pub invariant-loop-p : goal.invariant-loop-p
invariant-loop-p l = Visiting l.fn.s l.p.0 l.s l.cursor

abbrev pub decreases-loop-p : goal.decreases-loop-p
decreases-loop-p l = left l.p.0 l.cursor l.s.watches
