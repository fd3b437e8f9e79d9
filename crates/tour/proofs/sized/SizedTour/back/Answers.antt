use Rattle.tour.specs.SizedLive.{sized_gone_back}
use Rattle.tour.proofs.sized.SizedTour.back.Goals as goal

pub invariant_of-self : goal.invariant_of-self
invariant_of-self c = rw c.back.ensures (sized_gone_back c.self.invariant _ _)
