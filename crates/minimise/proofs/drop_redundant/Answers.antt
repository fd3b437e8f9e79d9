use Rattle.std.proofs.Common.{arith}
use Rattle.minimise.specs.Dropping.{shrinking_start, shrinking_ask, shrinking_gone, shrinking_kept, shrinking_end}
use Rattle.minimise.proofs.drop_redundant.Goals as goal
use Rattle.minimise.proofs.drop_redundant.Goals.{then-not-is_redundant, else-not-is_redundant}

pub loop-i-init : goal.loop-i-init
loop-i-init c = shrinking_start c.requires

pub is_redundant-requires : goal.is_redundant-requires
is_redundant-requires c = shrinking_ask c.requires c.loop-i.invariant (omega arith) c.at-l.ensures (omega arith)

pub loop-i-preserved : goal.loop-i-preserved
loop-i-preserved c =
    elim c.if-not-is_redundant.branch [
      | then-not-is_redundant w ↦
          rw (w.scratch-is, w.kept-is, w.set.ensures)
          (shrinking_kept c.requires c.loop-i.invariant (omega arith) c.at-l.ensures c.is_redundant.ensures w.if-not-is_redundant.true)
      | else-not-is_redundant w ↦
          rw (w.scratch-is, w.kept-is) (shrinking_gone c.requires c.loop-i.invariant (omega arith) c.at-l.ensures c.is_redundant.ensures w.if-not-is_redundant.false)
    ]

pub returns : goal.returns
returns c = rw c.truncate.ensures (shrinking_end c.requires c.loop-i.invariant (omega arith))
