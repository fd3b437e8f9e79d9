use Rattle.std.specs.List.Sorted.{IsPermutation}
use Rattle.scratch.proofs.settle.Given as goal

abbrev pub invariant-loop-i : goal.invariant-loop-i
invariant-loop-i l = IsPermutation l.fn.list l.list
