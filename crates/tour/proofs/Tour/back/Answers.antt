use Rattle.tour.specs.Live.{live_until}
use Rattle.tour.proofs.Tour.back.Goals as goal

pub invariant_of-self : goal.invariant_of-self
invariant_of-self c = rw c.cancel_until.ensures (live_until c.self.invariant _ _ _)
