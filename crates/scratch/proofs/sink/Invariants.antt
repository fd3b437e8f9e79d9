use Rattle.std.specs.Prelude.{◌≤◌}
use Rattle.std.specs.List.Sorted.{IsPermutation}
use Rattle.scratch.proofs.sink.Given as goal

abbrev pub invariant-loop-j : goal.invariant-loop-j
invariant-loop-j l = (l.j ≤ l.i) × IsPermutation l.initial.list l.list

abbrev pub decreases-loop-j : goal.decreases-loop-j
decreases-loop-j l = l.j
