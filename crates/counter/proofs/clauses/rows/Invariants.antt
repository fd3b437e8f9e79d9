use Prim.Native.Nat.{◌+◌, ◌-◌, ◌*◌, ◌≤◌}
use mathlib.Core.Path.{◌≡◌}
use lib.ListN.{length, drop}
use Rattle.model.specs.Limits.{max_variables}
use Rattle.counter.specs.Counter.{rows}
use Rattle.counter.specs.Wrote.{Left}
use Rattle.counter.proofs.clauses.rows.Given as goal

abbrev pub invariant-loop-l : goal.invariant-loop-l
invariant-loop-l l = record {
  same : l.w.out.ghost_name ≡ l.initial.w.out.ghost_name;
  left : Left l.initial.w.out.now l.initial.w.at (rows l.k l.first l.literals) l.w.out.now l.w.at (rows l.k l.base (drop l.l-index l.literals));
  helpers : l.base + (length l.literals - l.l-index) * l.k ≤ max_variables;
}
