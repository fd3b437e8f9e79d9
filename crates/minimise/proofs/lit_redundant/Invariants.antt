use Rattle.std.proofs.Common.{◌+◌, length}
use Rattle.learning.specs.Marks.{unseen}
use Rattle.minimise.specs.Redundant.{Tracks}
use Rattle.minimise.proofs.lit_redundant.Given as goal

abbrev pub invariant-loop-scratch : goal.invariant-loop-scratch
invariant-loop-scratch l = Tracks l.trail l.clauses l.fn.scratch l.scratch l.mask l.fn.l.0

abbrev pub decreases-loop-scratch : goal.decreases-loop-scratch
decreases-loop-scratch l = length l.scratch.stack.items + unseen l.scratch.marks
