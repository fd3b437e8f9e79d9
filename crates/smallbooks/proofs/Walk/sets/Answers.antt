use Rattle.std.proofs.Common.{refl, ◌∙◌, arith}
use Rattle.smallbooks.proofs.Tell.{telling_start, telling_choosing, telling_more}
use Rattle.smallbooks.proofs.Walk.sets.Goals as goal

pub loop-k-init : goal.loop-k-init
loop-k-init c = record { telling = telling_start c.args.self.now c.args.table.now; same_reference = refl }

pub each_set-requires : goal.each_set-requires
each_set-requires c = telling_choosing c.requires c.loop-k.invariant.telling (omega (arith, c.loop-k-test))

pub loop-k-preserved : goal.loop-k-preserved
loop-k-preserved c = record {
  telling = telling_more c.requires c.loop-k.invariant.telling (omega (arith, c.loop-k-test)) c.each_set.ensures.chose;
  same_reference = c.each_set.ensures.same_reference ∙ c.loop-k.invariant.same_reference;
}
