use Prim.Native.Nat.{◌+◌, ◌-◌}
use mathlib.Core.Path.{◌≡◌}
use Rattle.counter.specs.Counter.{columns}
use Rattle.counter.specs.Wrote.{Left}
use Rattle.counter.proofs.clauses.columns.Given as goal

abbrev pub invariant-loop-j : goal.invariant-loop-j
invariant-loop-j l = record {
  same : l.w.out.ghost_name ≡ l.initial.w.out.ghost_name;
  left : Left l.initial.w.out.now l.initial.w.at (columns l.x l.base (l.base + l.k) 0 (l.k - 1)) l.w.out.now l.w.at (columns l.x l.base (l.base + l.k) (l.j - 1) (l.k - l.j));
}
