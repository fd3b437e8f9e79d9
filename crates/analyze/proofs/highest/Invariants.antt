use Rattle.analyze.specs.Second.{Ranking}
use Rattle.analyze.proofs.highest.Given as goal

abbrev pub invariant-loop-i : goal.invariant-loop-i
invariant-loop-i l = Ranking l.trail.vars l.buffer.items l.best l.i
