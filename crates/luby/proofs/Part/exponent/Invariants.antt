use mathlib.Core.Path.{◌≡◌}
use Rattle.model.specs.Luby.{descend}
use Rattle.luby.specs.Laws.{Beginning}
use Rattle.luby.proofs.Part.exponent.Given as goal

abbrev pub invariant-loop-size : goal.invariant-loop-size
invariant-loop-size l = Beginning l.y l.seq l.size × (descend l.seq l.size l.y ≡ descend l.initial.seq l.initial.size l.x)

abbrev pub decreases-loop-size : goal.decreases-loop-size
decreases-loop-size l = l.seq
