use Rattle.trail.specs.Laws.{counted}
use Rattle.trail.proofs.Trail.into_parts.Goals as goal

pub returns-clause-counts : goal.returns-clause-counts
returns-clause-counts c = counted c.self.inside c.self.invariant _ c.self.view_is
