use Rattle.minimise.specs.Dropping.{judged_free, judged_caused, judged_decided, judged_tried}
use Rattle.minimise.proofs.is_redundant.Goals as goal

pub returns-then-is_some : goal.returns-then-is_some
returns-then-is_some c = judged_tried c.requires (judged_caused c.requires c.var.ensures c.reason.ensures c.is_some.ensures c.if-is_some.true) c.lit_redundant.ensures

pub returns-else-is_some : goal.returns-else-is_some
returns-else-is_some c =
    rw c.if-is_some.false
    (judged_decided c.requires (judged_free c.requires c.var.ensures c.reason.ensures c.is_some.ensures c.if-is_some.false))
