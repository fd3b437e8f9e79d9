use Rattle.std.proofs.Common.{sym, ◌∙◌}
use Rattle.analyze.specs.Joining.{lit-var, joinable_marks, joining_one, joining_skips, joining_turns, joining_ends}
use Rattle.analyze.proofs.join.Goals as goal
use Rattle.analyze.proofs.join.Goals.{then-joins, else-joins}

pub joins-requires : goal.joins-requires
joins-requires c = (lit-var (joining_one c.loop-l.invariant c.loop-l-test.true), joinable_marks c.loop-l.invariant.ready)

pub join_lit-path-requires-clause-joinable : goal.join_lit-path-requires-clause-joinable
join_lit-path-requires-clause-joinable c = joining_one c.loop-l.invariant c.loop-l-test.true

pub loop-l-preserved : goal.loop-l-preserved
loop-l-preserved c =
    elim c.if-joins.branch [
      | then-joins w ↦ rw (w.scratch-is, w.act-is, w.path-is) (joining_turns c.loop-l.invariant c.loop-l-test.true w.join_lit-path.ensures)
      | else-joins w ↦ rw (w.scratch-is, w.act-is, w.path-is) (joining_skips c.loop-l.invariant c.loop-l-test.true (sym c.joins.ensures ∙ w.if-joins.false))
    ]

pub returns : goal.returns
returns c = joining_ends c.loop-l.invariant c.loop-l-test.false
