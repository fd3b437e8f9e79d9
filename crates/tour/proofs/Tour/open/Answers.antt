use Rattle.tour.specs.Live.{live_level}
use Rattle.tour.proofs.Tour.open.Goals as goal

pub invariant_of-self : goal.invariant_of-self
invariant_of-self c = rw c.new_decision_level.ensures (live_level c.self.invariant)
