use Rattle.minimise.specs.Pushing.{Pushing}
use Rattle.minimise.proofs.push_reason.Given as goal

abbrev pub invariant-loop-x : goal.invariant-loop-x
invariant-loop-x l = Pushing l.trail l.initial.scratch l.scratch l.mask l.part l.x-index
