use Rattle.tour.specs.SizedLive.{sized_opened}
use Rattle.tour.proofs.sized.SizedTour.open.Goals as goal

pub invariant_of-self : goal.invariant_of-self
invariant_of-self c = rw c.open.ensures (sized_opened c.self.invariant)
