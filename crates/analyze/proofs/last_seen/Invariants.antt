use Rattle.std.specs.Prelude.{◌≡◌}
use Rattle.analyze.specs.Walking.{last_seen}
use Rattle.analyze.proofs.last_seen.Given as goal

abbrev pub invariant-loop-k : goal.invariant-loop-k
invariant-loop-k l = last_seen l.marks l.trail.vars.trail l.k ≡ last_seen l.marks l.trail.vars.trail l.i
