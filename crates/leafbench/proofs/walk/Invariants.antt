use Rattle.std.proofs.Common.{◌+◌, ◌-◌, ◌≡◌, length, drop}
use Rattle.watch.specs.View.{list_of}
use Rattle.state.specs.Walk.{On}
use Rattle.leafbench.specs.Results.{hits}
use Rattle.leafbench.proofs.walk.Given as goal

abbrev pub invariant-loop-s : goal.invariant-loop-s
invariant-loop-s l =
    On l.l.0 l.c l.s.watches × (l.k + hits l.s (drop l.c.passed (list_of l.s.watches l.l.0)) ≡ hits l.s (list_of l.s.watches l.l.0))

abbrev pub decreases-loop-s : goal.decreases-loop-s
decreases-loop-s l = length (list_of l.s.watches l.l.0) - l.c.passed
