use Rattle.std.proofs.Common.{arith, suc, add-one, sym, ap, ◌∙◌, drop, length-drop}
use Rattle.leafbench.specs.Results.{filled}
use Rattle.leafbench.specs.Loops.{filled_on, filled_ends}
use Rattle.leafbench.proofs.fill.Goals as goal

pub loop-p-preserved : goal.loop-p-preserved
loop-p-preserved c =
    let v = c.loop-p in
    rw add-one (ap (λ s. filled s (drop (suc v.p-index) c.args.order.now)) c.put.ensures ∙ filled_on v.t c.args.order.now v.p-index c.loop-p-test.true ∙ v.invariant)

pub returns : goal.returns
returns c =
    let v = c.loop-p in
    let none = filled_ends v.t (drop v.p-index c.args.order.now) (rw length-drop (omega (arith, c.loop-p-test.false))) in
    sym none ∙ v.invariant
