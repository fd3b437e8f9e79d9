use native.Mathlib.Omega.{arith}
use mathlib.Core.Path.{ap, ◌∙◌}
use Rattle.watch.specs.Cells.{link_low, set_paired, link_set}
use Rattle.watch.specs.View.{with_link}
use Rattle.watch.proofs.table.Table.set_link.Goals as goal

pub offset_bounds-records-x : goal.offset_bounds-records-x
offset_bounds-records-x c = omega (arith, link_low _ _ c.self.view_is _ c.requires)

pub bounds-records-x : goal.bounds-records-x
bounds-records-x c = link_low _ _ c.self.view_is _ c.requires

pub invariant_of-self : goal.invariant_of-self
invariant_of-self c = set_paired _ _ (link_low _ _ c.self.view_is _ c.requires) c.self.invariant _ _

pub returns : goal.returns
returns c = link_set _ _ (link_low _ _ c.self.view_is _ c.requires) c.self.invariant c.args.v ∙ ap (with_link _ _) c.self.view_is
