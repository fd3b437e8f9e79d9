use mathlib.Core.Path.{◌∙◌}
use native.Mathlib.Omega.{arith}
use lib.ListN.{length}
use Rattle.counter.proofs.Wrote.{left_none}
use Rattle.counter.proofs.Writing.{left_one, left_as, room_one, negations_next, negations_end}
use Rattle.counter.proofs.clauses.negations.Goals as goal

pub put-requires-clause-c_in_bounds : goal.put-requires-clause-c_in_bounds
put-requires-clause-c_in_bounds c =
    let l = c.loop-l in
    let next = left_as l.invariant.left (negations_next c.args.literals.now l.l-index c.loop-l-test.true) in
    room_one l.w.at (length l.w.out.now) _ _ next.fits

pub loop-l-preserved : goal.loop-l-preserved
loop-l-preserved c =
    let l = c.loop-l in
    let next = left_as l.invariant.left (negations_next c.args.literals.now l.l-index c.loop-l-test.true) in
    record { same = c.put.ensures.same_reference ∙ l.invariant.same; left = left_one next (rw c.negate.ensures at c.put.ensures.wrote) }

pub returns-clause-wrote : goal.returns-clause-wrote
returns-clause-wrote c =
    let l = c.loop-l in
    left_none (left_as l.invariant.left (negations_end c.args.literals.now l.l-index (omega arith)))
