use Rattle.tour.specs.SizedLive.{sized_finished}
use Rattle.tour.proofs.sized.SizedTour.finish.Goals as goal

pub invariant_of-self : goal.invariant_of-self
invariant_of-self c = rw c.finish.ensures (sized_finished c.self.invariant _)
