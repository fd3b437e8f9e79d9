use Rattle.litset.specs.Laws.{none_set, no_flags}
use Rattle.litset.proofs.LitSet.clear.Goals as goal

pub invariant_of-self : goal.invariant_of-self
invariant_of-self c = rw (c.unflag.ensures, c.clear.ensures) (none_set _ (no_flags _))
