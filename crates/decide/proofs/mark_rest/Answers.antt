use Rattle.std.proofs.Common.{◌≡◌, get_or, arith}
use Rattle.model.specs.Lit.{var}
use Rattle.model.specs.State.{level_lit}
use Rattle.decide.specs.Marking.{marking_low, marking_high, marking_ends}
use Rattle.decide.proofs.mark_rest.Goals as goal
use Rattle.decide.proofs.mark_rest.Goals.{then-level-gt0, else-level-gt0}

pub loop-l-preserved : goal.loop-l-preserved
loop-l-preserved c =
    let i = c.loop-l.invariant in
    let v : c.var-v.result.0 ≡ var (get_or c.args.part.now c.loop-l.l-index 0) = c.var-v.ensures in
    let e : c.level.result ≡ level_lit c.args.trail.now.vars (get_or c.args.part.now c.loop-l.l-index 0) = rw v at c.level.ensures in
    elim c.if-level-gt0.branch [
      | then-level-gt0 w ↦ rw (w.marks-is, w.set.ensures, v) (marking_high i c.loop-l-test.true (omega (arith, e, w.if-level-gt0.true)))
      | else-level-gt0 w ↦ rw w.marks-is (marking_low i c.loop-l-test.true (omega (arith, e, w.if-level-gt0.false)))
    ]

pub returns : goal.returns
returns c = marking_ends c.loop-l.invariant c.loop-l-test.false
