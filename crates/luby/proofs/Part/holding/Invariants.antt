use Prim.Native.Nat.{◌-◌, ◌<◌}
use mathlib.Core.Path.{◌≡◌}
use Rattle.model.specs.Luby.{climb}
use Rattle.luby.specs.Laws.{Whole}
use Rattle.luby.proofs.Part.holding.Given as goal

abbrev pub invariant-loop-size : goal.invariant-loop-size
invariant-loop-size l = (climb l.x l.size l.seq l.x ≡ climb l.x 1 0 l.x) × Whole l.seq l.size × (l.size < 262144) × (l.seq < l.size)

abbrev pub decreases-loop-size : goal.decreases-loop-size
decreases-loop-size l = 262144 - l.size
