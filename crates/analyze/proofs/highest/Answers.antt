use Rattle.std.proofs.Common.{◌≡◌, get_or, arith, ap, ◌∙◌}
use Rattle.model.specs.Lit.{var}
use Rattle.model.specs.State.{level_lit}
use Rattle.analyze.specs.Second.{ranking_starts, ranking_more, ranking_same, ranking_ends}
use Rattle.analyze.proofs.highest.Goals as goal
use Rattle.analyze.proofs.highest.Goals.{then-level, else-level}

pub loop-i-init : goal.loop-i-init
loop-i-init c = ranking_starts c.requires.some

pub loop-i-preserved : goal.loop-i-preserved
loop-i-preserved c =
    let b = c.args.buffer.now.items in
    let e : c.var.result.0 ≡ var (get_or b c.loop-i.best 0) = c.var.ensures ∙ ap var c.at.ensures in
    let f : c.var-in-loop-i.result.0 ≡ var (get_or b c.loop-i.i 0) = c.var-in-loop-i.ensures ∙ ap var c.at-in-loop-i.ensures in
    let best : c.level.result ≡ level_lit c.args.trail.now.vars (get_or b c.loop-i.best 0) = rw e at c.level.ensures in
    let next : c.level-in-loop-i.result ≡ level_lit c.args.trail.now.vars (get_or b c.loop-i.i 0) = rw f at c.level-in-loop-i.ensures in
    elim c.if-level.branch [
      | then-level w ↦ rw w.best-is (ranking_more c.loop-i.invariant (omega arith) (omega arith))
      | else-level w ↦ rw w.best-is (ranking_same c.loop-i.invariant (omega arith) (omega arith))
    ]

pub returns : goal.returns
returns c = ranking_ends c.loop-i.invariant (omega arith)
