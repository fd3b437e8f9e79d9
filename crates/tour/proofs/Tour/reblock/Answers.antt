use Rattle.tour.specs.Live.{live_blocked}
use Rattle.tour.proofs.Tour.reblock.Goals as goal

pub invariant_of-self : goal.invariant_of-self
invariant_of-self c = rw c.set_blocker.ensures (live_blocked c.self.invariant _ _)
