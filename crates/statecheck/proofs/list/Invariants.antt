use Rattle.std.proofs.Common.{◌-◌, length}
use Rattle.watch.specs.View.{list_of}
use Rattle.state.specs.Walk.{On}
use Rattle.statecheck.proofs.list.Given as goal

abbrev pub invariant-loop-l : goal.invariant-loop-l
invariant-loop-l g l = On l.l.0 l.c l.w

abbrev pub decreases-loop-l : goal.decreases-loop-l
decreases-loop-l g l = length (list_of l.w l.l.0) - l.c.passed
