use Rattle.std.proofs.Common.{ap, get_or}
use Rattle.intake.specs.Storing.{pushing_turns}
use Rattle.intake.proofs.push_buffer.Goals as goal

pub loop-l-preserved : goal.loop-l-preserved
loop-l-preserved c =
    rw c.push.ensures
    (pushing_turns _ c.args.buffer.now c.requires c.loop-l.invariant (rw c.items-l-items.ensures at c.loop-l-test.true) _
    (ap (λ xs. get_or xs c.loop-l.l-index 0) c.items-l-items.ensures))
