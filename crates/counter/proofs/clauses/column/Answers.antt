use Prim.Native.Nat.{◌+◌}
use native.Mathlib.Omega.{arith}
use lib.ListN.{length}
use Rattle.counter.proofs.Wrote.{wrote_append, wrote_length}
use Rattle.counter.proofs.Writing.{pair_room, wrote_one}
use Rattle.counter.proofs.clauses.column.Goals as goal

pub put-requires-clause-c_in_bounds : goal.put-requires-clause-c_in_bounds
put-requires-clause-c_in_bounds c =
    let a = c.args in
    omega (arith, pair_room a.w.now.at (length a.w.now.out.now) a.x a.base (a.base + a.k) a.j c.requires.fits)

pub put-requires-2-clause-c_in_bounds : goal.put-requires-2-clause-c_in_bounds
put-requires-2-clause-c_in_bounds c =
    let a = c.args in
    let w = c.put.ensures.wrote in
    omega (arith, pair_room a.w.now.at (length a.w.now.out.now) a.x a.base (a.base + a.k) a.j c.requires.fits, wrote_one w, wrote_length w)

pub returns-clause-wrote : goal.returns-clause-wrote
returns-clause-wrote c =
    rw (c.negate.ensures, c.negate-2.ensures, c.negate-3.ensures, c.helper-h.ensures, c.helper.ensures, c.helper-2.ensures) at
    (wrote_append c.put.ensures.wrote c.put-2.ensures.wrote)
