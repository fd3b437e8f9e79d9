use Prim.Native.Nat.{◌+◌, ◌-◌}
use lib.ListN.{length}
use Rattle.counter.specs.Counter.{columns}
use Rattle.counter.proofs.Wrote.{left_step, fits_first}
use Rattle.counter.proofs.Writing.{left_one, room_one, row_start}
use Rattle.counter.proofs.clauses.next_row.Goals as goal

pub put-requires-clause-c_in_bounds : goal.put-requires-clause-c_in_bounds
put-requires-clause-c_in_bounds c =
    let a = c.args in
    room_one a.w.now.at (length a.w.now.out.now) _ _ (row_start a.k a.x a.base a.w.now.out.now a.w.now.at c.requires.fits).fits

pub put-requires-2-clause-c_in_bounds : goal.put-requires-2-clause-c_in_bounds
put-requires-2-clause-c_in_bounds c =
    let a = c.args in
    let one = left_one (row_start a.k a.x a.base a.w.now.out.now a.w.now.at c.requires.fits) (rw (c.negate.ensures, c.helper-h.ensures) at c.put.ensures.wrote) in
    room_one c.put.new.self.at (length c.put.new.self.out.now) _ _ one.fits

pub columns-requires-clause-fits : goal.columns-requires-clause-fits
columns-requires-clause-fits c =
    let a = c.args in
    let one = left_one (row_start a.k a.x a.base a.w.now.out.now a.w.now.at c.requires.fits) (rw (c.negate.ensures, c.helper-h.ensures) at c.put.ensures.wrote) in
    let two = left_one one (rw (c.negate-2.ensures, c.helper.ensures, c.helper-h.ensures) at c.put-2.ensures.wrote) in
    fits_first _ _ (columns a.x a.base (a.base + a.k) 0 (a.k - 1)) _ two.fits

pub stop-requires-clause-fits : goal.stop-requires-clause-fits
stop-requires-clause-fits c =
    let a = c.args in
    let one = left_one (row_start a.k a.x a.base a.w.now.out.now a.w.now.at c.requires.fits) (rw (c.negate.ensures, c.helper-h.ensures) at c.put.ensures.wrote) in
    let two = left_one one (rw (c.negate-2.ensures, c.helper.ensures, c.helper-h.ensures) at c.put-2.ensures.wrote) in
    (left_step {one = columns a.x a.base (a.base + a.k) 0 (a.k - 1)} two c.columns.ensures.wrote).fits

pub returns-clause-wrote : goal.returns-clause-wrote
returns-clause-wrote c =
    let a = c.args in
    let one = left_one (row_start a.k a.x a.base a.w.now.out.now a.w.now.at c.requires.fits) (rw (c.negate.ensures, c.helper-h.ensures) at c.put.ensures.wrote) in
    let two = left_one one (rw (c.negate-2.ensures, c.helper.ensures, c.helper-h.ensures) at c.put-2.ensures.wrote) in
    (left_step {one = columns a.x a.base (a.base + a.k) 0 (a.k - 1)} two c.columns.ensures.wrote).rest _ _ c.stop.ensures.wrote
