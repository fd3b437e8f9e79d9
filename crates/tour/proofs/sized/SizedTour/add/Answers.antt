use Rattle.tour.specs.SizedLive.{sized_added}
use Rattle.tour.proofs.sized.SizedTour.add.Goals as goal

pub invariant_of-self : goal.invariant_of-self
invariant_of-self c = rw c.add.ensures (sized_added c.self.invariant _ _ _)
