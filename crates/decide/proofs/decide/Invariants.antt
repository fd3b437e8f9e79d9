use Rattle.decide.specs.Deciding.{Assuming}
use Rattle.decide.proofs.decide.Given as goal

abbrev pub invariant-loop-k : goal.invariant-loop-k
invariant-loop-k l = Assuming l.act.activities l.assumptions l.fn.s l.k l.s
