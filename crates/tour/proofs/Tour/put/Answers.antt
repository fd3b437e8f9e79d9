use Rattle.std.proofs.Common.{arith}
use Rattle.tour.specs.Live.{live_enqueued}
use Rattle.tour.proofs.Tour.put.Goals as goal

pub invariant_of-self : goal.invariant_of-self
invariant_of-self c = rw c.enqueue.ensures (live_enqueued c.self.invariant c.args.p.0 _ (omega (arith, c.if-var-n.true, c.var.ensures)))
