use Rattle.tour.specs.SizedLive.{sized_reblocked}
use Rattle.tour.proofs.sized.SizedTour.reblock.Goals as goal

pub invariant_of-self : goal.invariant_of-self
invariant_of-self c = rw c.reblock.ensures (sized_reblocked c.self.invariant _ _)
