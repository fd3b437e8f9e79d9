use Rattle.std.proofs.Common.{◌≡◌, rules, arith, None}
use Rattle.std.specs.Prelude.{MatchOption}
use Rattle.text.specs.Number.{literal}
use Rattle.text.specs.FormatLaws.{next_bad, next_good, stored_none, stored_more, stored_all}
use Rattle.text.proofs.reading.put_literals.Goals as goal

pub returns-in_default : goal.returns-in_default
returns-in_default c =
    let e : MatchOption c.next.result (c.and_then.result ≡ None) (λ w. c.and_then.result ≡ literal c.args.vars.count w.now) = search rules in
    absurd (stored_none _ _ _ c.loop-cell.cell-index c.loop-cell.invariant (next_bad c.args.vars.count _ _ c.next.result c.and_then.result c.next.ensures.steps e c.in_default.is) (omega (arith, c.requires)) (omega arith))

pub loop-cell-preserved : goal.loop-cell-preserved
loop-cell-preserved c =
    let e : MatchOption c.next.result (c.and_then.result ≡ None) (λ w. c.and_then.result ≡ literal c.args.vars.count w.now) = search rules in
    stored_more _ _ _ _ c.loop-cell.cell-index c.in-Some.literal c.loop-cell.invariant
    (next_good c.args.vars.count _ _ c.next.result c.and_then.result c.next.ensures.steps e c.in-Some.literal c.in-Some.is) (omega arith)

pub returns : goal.returns
returns c = stored_all _ _ _ c.loop-cell.cell-index c.loop-cell.invariant (omega (arith, c.requires)) (omega arith)
