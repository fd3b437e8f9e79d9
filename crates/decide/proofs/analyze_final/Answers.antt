use Rattle.std.proofs.Common.{◌<◌, arith, sym, ◌∙◌}
use Rattle.model.specs.State.{decision_level}
use Rattle.decide.specs.Final.{explain_mark, explain_asks, explain_shallow, explain_walk, explain_unmark, explain_ends}
use Rattle.decide.proofs.analyze_final.Goals as goal

pub insert-requires : goal.insert-requires
insert-requires c = explain_asks c.requires.still c.requires.set

pub returns-then-decision_level-eq0 : goal.returns-then-decision_level-eq0
returns-then-decision_level-eq0 c =
    rw c.insert.ensures (explain_shallow c.requires.still c.requires.set (sym c.decision_level.ensures ∙ c.if-decision_level-eq0.true))

pub set-requires : goal.set-requires
set-requires c = rw c.var.ensures (explain_mark c.requires.still c.requires.set)

pub blame-requires : goal.blame-requires
blame-requires c =
    let deep : 0 < decision_level c.args.s.now.trail.vars = omega (arith, c.decision_level.ensures, c.if-decision_level-eq0.false) in
    rw (c.insert.ensures, c.set.ensures, c.var.ensures) (explain_walk c.requires.still c.requires.set deep c.limit-start.ensures)

pub unset-requires : goal.unset-requires
unset-requires c =
    let deep : 0 < decision_level c.args.s.now.trail.vars = omega (arith, c.decision_level.ensures, c.if-decision_level-eq0.false) in
    rw c.var-2.ensures
    (explain_unmark c.requires.still c.requires.set deep c.limit-start.ensures (rw (c.insert.ensures, c.set.ensures, c.var.ensures) at c.blame.ensures))

pub returns : goal.returns
returns c =
    let deep : 0 < decision_level c.args.s.now.trail.vars = omega (arith, c.decision_level.ensures, c.if-decision_level-eq0.false) in
    rw (c.unset.ensures, c.var-2.ensures)
    (explain_ends c.requires.still c.requires.set deep c.limit-start.ensures (rw (c.insert.ensures, c.set.ensures, c.var.ensures) at c.blame.ensures))
