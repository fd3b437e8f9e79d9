use Rattle.std.specs.Prelude.{length}
use Rattle.analyze.specs.Unmarking.{Left}
use Rattle.analyze.proofs.unmark_cells.Given as goal

abbrev pub invariant-loop-l : goal.invariant-loop-l
invariant-loop-l l = Left (length l.fn.marks) l.marks l.l-items l.l-index
