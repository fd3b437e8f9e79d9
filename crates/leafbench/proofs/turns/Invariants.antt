use Rattle.std.proofs.Common.{◌*◌, ◌≤◌, ◌≡◌}
use Rattle.trail.specs.View.{Counted}
use Rattle.leafbench.specs.Results.{put_on}
use Rattle.leafbench.proofs.turns.Given as goal

abbrev pub invariant-loop : goal.invariant-loop
invariant-loop l = (l.counter ≤ l.n) × Counted l.t.trail 0 0 × (l.t.config ≡ l.fn.t.config) × (l.put ≡ l.counter * put_on l.fn.t.config.vars 0 l.order)
