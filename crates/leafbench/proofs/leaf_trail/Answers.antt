use Rattle.leafbench.specs.Loops.{begun_trail}
use Rattle.leafbench.proofs.leaf_trail.Goals as goal

pub turns-k-requires-clause-none : goal.turns-k-requires-clause-none
turns-k-requires-clause-none c = begun_trail c.begin-t.ensures
