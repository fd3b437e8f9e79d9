use Rattle.smallbooks.specs.Pick.{Gathering}
use Rattle.smallbooks.proofs.clauses.Given as goal

abbrev pub invariant-loop-k : goal.invariant-loop-k
invariant-loop-k l = Gathering l.v l.k l.chosen.items l.table.items
