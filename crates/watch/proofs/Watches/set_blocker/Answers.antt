use Rattle.watch.specs.Stores.{holds, note_low, blocker_holds}
use Rattle.watch.proofs.Watches.set_blocker.Goals as goal

pub set_note-requires : goal.set_note-requires
set_note-requires c = note_low (holds c.self.invariant c.self.view_is) _ c.requires

pub invariant_of-self : goal.invariant_of-self
invariant_of-self c = rw c.set_note.ensures (blocker_holds (holds c.self.invariant c.self.view_is) _ c.args.b.0 c.requires).rep

pub returns : goal.returns
returns c = rw c.set_note.ensures (blocker_holds (holds c.self.invariant c.self.view_is) _ c.args.b.0 c.requires).view
