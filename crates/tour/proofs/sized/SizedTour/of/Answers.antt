use Rattle.tour.specs.SizedLive.{live}
use Rattle.tour.proofs.sized.SizedTour.of.Goals as goal

pub of-requires : goal.of-requires
of-requires c = live c.requires
