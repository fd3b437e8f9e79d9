use Rattle.tour.specs.SizedLive.{sized_sent}
use Rattle.tour.proofs.sized.SizedTour.send.Goals as goal

pub invariant_of-self : goal.invariant_of-self
invariant_of-self c = rw c.send.ensures (sized_sent c.self.invariant _ _ _)
