use Rattle.std.proofs.Common.{arith}
use Rattle.minimise.specs.Notes.{undoing_var, undoing_turn, undoing_end}
use Rattle.minimise.proofs.unmark.Goals as goal

pub unset-requires : goal.unset-requires
unset-requires c = rw c.var.ensures (undoing_var c.loop-notes.invariant c.pop-q.new.self c.pop-q.result.0 (omega arith) c.pop-q.ensures.items)

pub loop-notes-preserved : goal.loop-notes-preserved
loop-notes-preserved c =
    rw (c.unset.ensures, c.var.ensures)
    (undoing_turn c.loop-notes.invariant c.pop-q.new.self c.pop-q.result.0 (omega arith) c.pop-q.ensures.items c.pop-q.ensures.cells)

pub returns : goal.returns
returns c = undoing_end c.loop-notes.invariant (omega arith)
