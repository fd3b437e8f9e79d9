use Rattle.tour.specs.Live.{live_started}
use Rattle.tour.proofs.Tour.begin.Goals as goal

pub invariant_of-result : goal.invariant_of-result
invariant_of-result c = live_started c.new.ensures
