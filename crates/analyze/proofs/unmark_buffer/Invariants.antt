use Rattle.std.specs.Prelude.{length}
use Rattle.analyze.specs.Unmarking.{Left}
use Rattle.analyze.proofs.unmark_buffer.Given as goal

abbrev pub invariant-loop-q : goal.invariant-loop-q
invariant-loop-q l = Left (length l.fn.marks) l.marks l.q-items l.q-index
