use native.Mathlib.Omega.{arith}
use Rattle.std.proofs.Common.{◌/◌, length}
use Rattle.watch.specs.Cells.{chunks_paired, take-first_chunks}
use Rattle.watch.proofs.table.Table.new.Goals as goal

pub invariant_of-result : goal.invariant_of-result
invariant_of-result c =
    rw (c.as_chunks_mut-records.ensures.front, take-first_chunks c.args.count (length c.args.cells.now / 2) c.args.cells.now (omega arith)) (chunks_paired c.args.count c.args.cells.now c.requires)

pub returns : goal.returns
returns c =
    rw (c.as_chunks_mut-records.ensures.front, take-first_chunks c.args.count (length c.args.cells.now / 2) c.args.cells.now (omega arith))
