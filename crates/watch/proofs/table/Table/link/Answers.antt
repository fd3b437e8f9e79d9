use native.Mathlib.Omega.{arith}
use mathlib.Core.Path.{ap, ◌∙◌}
use Rattle.watch.specs.Cells.{link_low, link_get}
use lib.ListN.{get_or}
use Rattle.watch.specs.View.{Cells}
use Rattle.watch.proofs.table.Table.link.Goals as goal

pub offset_bounds-records-x : goal.offset_bounds-records-x
offset_bounds-records-x c = omega (arith, link_low _ _ c.self.view_is _ c.requires)

pub bounds-records-x : goal.bounds-records-x
bounds-records-x c = link_low _ _ c.self.view_is _ c.requires

pub returns : goal.returns
returns c = link_get _ _ (link_low _ _ c.self.view_is _ c.requires) ∙ ap (λ (k : Cells). get_or k.links c.args.x 0) c.self.view_is
