use native.Mathlib.Omega.{arith}
use mathlib.Core.Path.{ap, ◌∙◌}
use Rattle.watch.specs.Cells.{note_low, note_get}
use lib.ListN.{get_or}
use Rattle.watch.specs.View.{Cells}
use Rattle.watch.proofs.table.Table.note.Goals as goal

pub offset_bounds-records-x : goal.offset_bounds-records-x
offset_bounds-records-x c = omega (arith, note_low _ _ c.self.view_is _ c.requires)

pub bounds-records-x : goal.bounds-records-x
bounds-records-x c = note_low _ _ c.self.view_is _ c.requires

pub returns : goal.returns
returns c = note_get _ _ (note_low _ _ c.self.view_is _ c.requires) ∙ ap (λ (k : Cells). get_or k.notes c.args.x 0) c.self.view_is
