use Rattle.std.proofs.Common.{◌∙◌, arith}
use Rattle.script.specs.Judging.{same_judged, raised, done, first_stops}
use Rattle.script.specs.Rows.{passed_part, literals_start, literal_next, literals_end}
use Rattle.script.proofs.judge_literals.Goals as goal

pub loop-i-init : goal.loop-i-init
loop-i-init c = literals_start c.args.v c.args.first c.args.literals.now

pub returns-in_err-check : goal.returns-in_err-check
returns-in_err-check c =
    same_judged _ _ _ c.loop-i.invariant
    (rw (literal_next c.args.v c.args.first c.args.literals.now c.loop-i.i (omega arith)) (raised c.from_residual.ensures.1 (first_stops c.in_err-check.ensures)))

pub loop-i-preserved : goal.loop-i-preserved
loop-i-preserved c = λ k.
    c.loop-i.invariant k ∙ rw (literal_next c.args.v c.args.first c.args.literals.now c.loop-i.i (omega arith)) (passed_part _ _ c.in_ok-check.ensures k)

pub returns : goal.returns
returns c = same_judged _ _ _ c.loop-i.invariant (rw (literals_end c.args.v c.args.first c.args.literals.now c.loop-i.i (omega arith)) done)
