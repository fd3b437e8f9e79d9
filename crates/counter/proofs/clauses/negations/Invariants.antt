use mathlib.Core.Path.{◌≡◌}
use lib.ListN.{drop}
use Rattle.counter.specs.Counter.{negations}
use Rattle.counter.specs.Wrote.{Left}
use Rattle.counter.proofs.clauses.negations.Given as goal

abbrev pub invariant-loop-l : goal.invariant-loop-l
invariant-loop-l l = record {
  same : l.w.out.ghost_name ≡ l.initial.w.out.ghost_name;
  left : Left l.initial.w.out.now l.initial.w.at (negations l.literals) l.w.out.now l.w.at (negations (drop l.l-index l.literals));
}
