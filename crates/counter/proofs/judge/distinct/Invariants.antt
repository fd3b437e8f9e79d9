use mathlib.Core.Path.{◌≡◌}
use lib.ListN.{length}
use Rattle.counter.specs.Counter.{distinct}
use Rattle.counter.proofs.judge.distinct.Given as goal

abbrev pub invariant-loop-left : goal.invariant-loop-left
invariant-loop-left l = distinct l.literals ≡ distinct l.left

abbrev pub decreases-loop-left : goal.decreases-loop-left
decreases-loop-left l = length l.left
