use Rattle.analyze.specs.Joining.{Joining}
use Rattle.analyze.proofs.join.Given as goal

abbrev pub invariant-loop-l : goal.invariant-loop-l
invariant-loop-l l = Joining l.trail l.fn.scratch l.fn.act l.fn.path l.part l.l-index l.scratch l.act l.path
