use Rattle.tour.specs.SizedLive.{sized_unfinished}
use Rattle.tour.proofs.sized.SizedTour.unfinish.Goals as goal

pub invariant_of-self : goal.invariant_of-self
invariant_of-self c = rw c.unfinish.ensures (sized_unfinished c.self.invariant)
