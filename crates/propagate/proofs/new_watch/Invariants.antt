use Rattle.std.proofs.Common.{◌≡◌, drop}
use Rattle.model.specs.Propagate.{new_watch}
use Rattle.propagate.proofs.new_watch.Given as goal

abbrev pub invariant-loop-k : goal.invariant-loop-k
invariant-loop-k l = new_watch l.trail.vars.values l.k (drop l.k l.clause) ≡ new_watch l.trail.vars.values 2 (drop 2 l.clause)
