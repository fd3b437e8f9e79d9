use Rattle.std.proofs.Common.{◌*◌, ◌≤◌, ◌≡◌}
use Rattle.watch.specs.View.{list_of}
use Rattle.leafbench.specs.Results.{hits}
use Rattle.leafbench.proofs.walks.Given as goal

abbrev pub invariant-loop : goal.invariant-loop
invariant-loop l = (l.counter ≤ l.n) × (l.k ≡ l.counter * hits l.t (list_of l.t.watches l.l.0))
