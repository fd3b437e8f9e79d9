use mathlib.Core.Path.{refl}
use Rattle.counter.specs.Counter.{helper}
use Rattle.counter.proofs.clauses.helper.Goals as goal

pub returns : goal.returns
unfolding helper
returns c = refl
