use native.Mathlib.Omega.{arith}
use Rattle.watch.specs.Stores.{holds, holds_again, cells_are, lists_length, blockers_length}
use Rattle.watch.proofs.Watches.into_cells.Goals as goal

pub returns : goal.returns
returns c =
    let k = holds c.self.invariant c.self.view_is in
    let h = holds_again k _ c.into_cells.ensures.value in
    record {
      laid_out = h.rep;
      value = h.view;
      cells = cells_are h;
      count = omega (arith, c.into_cells.ensures.count, c.self.invariant.room.links, lists_length k, blockers_length k);
    }
