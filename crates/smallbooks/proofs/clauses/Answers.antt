use native.Mathlib.Omega.{arith}
use Rattle.smallbooks.proofs.Pick.{gathering_start, gathering_picks, gathering_more, gathering_end}
use Rattle.smallbooks.proofs.clauses.Goals as goal

pub loop-k-init : goal.loop-k-init
loop-k-init c = rw (c.new-chosen.ensures, c.new-table.ensures) (gathering_start c.args.v)

pub each_clause-requires : goal.each_clause-requires
each_clause-requires c = gathering_picks c.loop-k.invariant c.loop-k.auto.k (omega (arith, c.loop-k-test)) c.requires

pub loop-k-preserved : goal.loop-k-preserved
loop-k-preserved c = gathering_more c.loop-k.invariant c.loop-k.auto.k (omega (arith, c.loop-k-test)) c.each_clause.ensures.kept c.each_clause.ensures.cells

pub returns : goal.returns
returns c = gathering_end c.loop-k.invariant (omega (arith, c.loop-k-test, c.loop-k.auto.k-end))
