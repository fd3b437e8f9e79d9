use Rattle.decide.specs.Blaming.{Blaming}
use Rattle.decide.proofs.blame.Given as goal

abbrev pub invariant-loop-i : goal.invariant-loop-i
invariant-loop-i l = Blaming l.trail l.clauses l.fn.marks l.fn.finals l.start l.i l.marks l.finals
