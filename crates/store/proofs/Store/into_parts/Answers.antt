use Rattle.store.specs.Laws.{counted}
use Rattle.store.proofs.Store.into_parts.Goals as goal

pub returns-clause-counts : goal.returns-clause-counts
returns-clause-counts c = counted c.self.invariant c.self.view_is
