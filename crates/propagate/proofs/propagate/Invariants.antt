use Rattle.std.proofs.Common.{◌-◌}
use Rattle.propagate.specs.Loops.{Propagating}
use Rattle.propagate.proofs.propagate.Given as goal

abbrev pub invariant-loop-s : goal.invariant-loop-s
invariant-loop-s l = Propagating l.fn.s l.s

abbrev pub decreases-loop-s : goal.decreases-loop-s
decreases-loop-s l = l.s.config.vars - l.s.qhead
