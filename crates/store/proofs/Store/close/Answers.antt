use Rattle.std.proofs.Common.{rules}
use Rattle.store.specs.Laws.{close_keeps}
use Rattle.store.proofs.Store.close.Goals as goal

pub invariant_of-self : goal.invariant_of-self
invariant_of-self c = search (rules, close_keeps)
