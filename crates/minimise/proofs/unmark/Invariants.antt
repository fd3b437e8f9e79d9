use Rattle.std.proofs.Common.{length}
use Rattle.minimise.specs.Notes.{Undoing}
use Rattle.minimise.proofs.unmark.Given as goal

abbrev pub invariant-loop-notes : goal.invariant-loop-notes
invariant-loop-notes l = Undoing l.initial.marks l.marks l.initial.notes l.notes l.n

abbrev pub decreases-loop-notes : goal.decreases-loop-notes
decreases-loop-notes l = length l.notes.items
