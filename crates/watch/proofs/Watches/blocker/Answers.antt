use mathlib.Core.Path.{◌∙◌}
use Rattle.watch.specs.Stores.{holds, note_low, blocker_of}
use Rattle.watch.proofs.Watches.blocker.Goals as goal

pub note-requires : goal.note-requires
note-requires c = note_low (holds c.self.invariant c.self.view_is) _ c.requires

pub returns : goal.returns
returns c = c.note.ensures ∙ blocker_of (holds c.self.invariant c.self.view_is) _ c.requires
