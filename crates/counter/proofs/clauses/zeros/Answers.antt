use mathlib.Core.Path.{◌∙◌}
use native.Mathlib.Omega.{arith}
use lib.ListN.{length}
use Rattle.counter.proofs.Wrote.{left_none}
use Rattle.counter.proofs.Writing.{left_one, left_as, room_one, zeros_next, zeros_end}
use Rattle.counter.proofs.clauses.zeros.Goals as goal

pub put-requires-clause-c_in_bounds : goal.put-requires-clause-c_in_bounds
put-requires-clause-c_in_bounds c =
    let l = c.loop-j in
    let next = left_as l.invariant.left (zeros_next c.args.base c.args.k l.j l.auto.j c.loop-j-test.true) in
    room_one l.w.at (length l.w.out.now) _ _ next.fits

pub loop-j-preserved : goal.loop-j-preserved
loop-j-preserved c =
    let l = c.loop-j in
    let next = left_as l.invariant.left (zeros_next c.args.base c.args.k l.j l.auto.j c.loop-j-test.true) in
    record { same = c.put.ensures.same_reference ∙ l.invariant.same; left = left_one next (rw (c.negate.ensures, c.helper.ensures) at c.put.ensures.wrote) }

pub returns-clause-wrote : goal.returns-clause-wrote
returns-clause-wrote c =
    let l = c.loop-j in
    left_none (left_as l.invariant.left (zeros_end c.args.base c.args.k l.j (omega arith)))
