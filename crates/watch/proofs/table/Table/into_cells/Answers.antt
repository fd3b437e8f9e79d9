use native.Mathlib.Omega.{arith}
use mathlib.Core.Path.{ap}
use Rattle.std.proofs.Common.{length}
use Rattle.watch.specs.Cells.{flattened_holds, links_length}
use Rattle.watch.specs.View.{Cells}
use Rattle.watch.proofs.table.Table.into_cells.Goals as goal

pub returns : goal.returns
returns c =
    record {
      value = flattened_holds _ _ c.self.invariant c.self.view_is _ c.as_flattened_mut.ensures.value;
      count = omega (arith, c.as_flattened_mut.ensures.len, links_length c.self.inside.records.now, ap (λ (k : Cells). length k.links) c.self.view_is);
    }
