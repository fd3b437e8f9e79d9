use Rattle.tour.specs.Live.{live_inserted}
use Rattle.tour.proofs.Tour.finish.Goals as goal

pub invariant_of-self : goal.invariant_of-self
invariant_of-self c = rw c.insert.ensures (live_inserted c.self.invariant _)
