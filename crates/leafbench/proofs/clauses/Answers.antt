use Rattle.std.proofs.Common.{arith, add-one, subst, ◌≡◌}
use Rattle.leafbench.specs.Loops.{SizedRow, sized_row_more}
use Rattle.leafbench.proofs.clauses.Goals as goal

pub loop-i-preserved : goal.loop-i-preserved
loop-i-preserved c =
    let v = c.loop-i in
    (omega (arith, c.loop-i-test.true), rw add-one (sized_row_more c.requires.ample v.invariant.1 (omega (arith, c.loop-i-test.true)) c.add.ensures))

pub returns : goal.returns
returns c =
    let v = c.loop-i in
    subst (λ n. SizedRow c.args.t.now v.t n) (let e : v.i ≡ 32 = omega (arith, v.invariant.0, c.loop-i-test.false) in e) v.invariant.1
