use Rattle.tour.specs.SizedLive.{sized_placed}
use Rattle.tour.proofs.sized.SizedTour.put.Goals as goal

pub invariant_of-self : goal.invariant_of-self
invariant_of-self c = rw c.put.ensures (sized_placed c.self.invariant _ _)
