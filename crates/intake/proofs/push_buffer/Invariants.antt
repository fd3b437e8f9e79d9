use Rattle.std.proofs.Common.{take}
use Rattle.intake.specs.Storing.{Pushing}
use Rattle.intake.proofs.push_buffer.Given as goal

abbrev pub invariant-loop-l : goal.invariant-loop-l
invariant-loop-l l = Pushing l.fn.clauses l.clauses (take l.l-index l.buffer.items)
