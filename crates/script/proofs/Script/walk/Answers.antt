use Rattle.std.proofs.Common.{◌≡◌, ◌+◌, ap, ◌∙◌, arith}
use Rattle.script.specs.Kinds.{cells_of}
use Rattle.script.specs.Walk.{next_at, cells-record}
use Rattle.script.specs.Judging.{same_judged, raised, accepted_hold}
use Rattle.script.specs.Rows.{walk_stop, walk_more, walk_end}
use Rattle.script.proofs.Script.walk.Goals as goal

pub returns-in_err-record-clause-judged : goal.returns-in_err-record-clause-judged
returns-in_err-record-clause-judged c =
    let a = c.args in
    same_judged _ _ _ c.loop-at.invariant (raised c.from_residual.ensures.1 (walk_stop a.header.variables a.cells.now c.loop-at.at (omega arith) c.in_err-record.ensures.judged))

pub loop-at-preserved : goal.loop-at-preserved
loop-at-preserved c =
    let s = c.args.cells.now in
    let at = c.loop-at.at in
    let next : at + c.cells-at.result ≡ next_at s at =
    omega (arith, c.cells-at.ensures, ap cells_of c.in_ok-record.ensures.record.0, cells-record s at c.in_ok-record.ensures.record.1) in
    λ k. c.loop-at.invariant k ∙ walk_more c.args.header.variables s at (omega arith) c.in_ok-record.ensures.judged _ next k

pub invariant_of-result : goal.invariant_of-result
invariant_of-result c =
    record {
      of_header = c.requires;
      readable = record {
        rows = accepted_hold {t = c.args.header} _ (same_judged _ _ _ c.loop-at.invariant (walk_end c.args.header.variables c.args.cells.now c.loop-at.at (omega arith)));
      };
    }

pub returns-clause-judged : goal.returns-clause-judged
returns-clause-judged c = same_judged _ _ _ c.loop-at.invariant (walk_end c.args.header.variables c.args.cells.now c.loop-at.at (omega arith))
