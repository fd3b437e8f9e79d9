use Rattle.tour.specs.Live.{live_started}
use Rattle.tour.specs.SizedLive.{sized_started}
use Rattle.tour.proofs.sized.SizedTour.begin.Goals as goal

pub invariant_of-result : goal.invariant_of-result
invariant_of-result c = live_started c.new.ensures

pub invariant_of-result-2 : goal.invariant_of-result-2
invariant_of-result-2 c = sized_started c.new.ensures
