use Rattle.minimise.specs.Dropping.{Shrinking}
use Rattle.minimise.proofs.drop_redundant.Given as goal

abbrev pub invariant-loop-i : goal.invariant-loop-i
invariant-loop-i l = Shrinking l.trail l.clauses l.initial.scratch l.scratch l.mask l.i l.kept
