use Rattle.std.proofs.Common.{◌≡◌, drop}
use Rattle.leafbench.specs.Results.{filled}
use Rattle.leafbench.proofs.fill.Given as goal

abbrev pub invariant-loop-p : goal.invariant-loop-p
invariant-loop-p l = filled l.t (drop l.p-index l.order) ≡ filled l.fn.t l.order
