use Rattle.std.proofs.Common.{◌≡◌, drop}
use Rattle.model.specs.Minimise.{abstract_levels}
use Rattle.minimise.proofs.abstract_levels.Given as goal

abbrev pub invariant-loop-l : goal.invariant-loop-l
invariant-loop-l l = abstract_levels l.trail.vars 0 (drop 1 l.buffer.items) ≡ abstract_levels l.trail.vars l.mask (drop l.l-index l.l-items)
