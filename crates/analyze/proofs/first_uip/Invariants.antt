use Rattle.analyze.specs.Walking.{Walking}
use Rattle.analyze.specs.Uip.{uip_of}
use Rattle.analyze.proofs.first_uip.Given as goal

abbrev pub invariant-loop-path : goal.invariant-loop-path
invariant-loop-path l = Walking l.trail l.clauses l.fn.scratch (uip_of l.trail l.clauses l.fn.act l.confl) l.i l.scratch l.act l.path

abbrev pub decreases-loop-path : goal.decreases-loop-path
decreases-loop-path l = l.i
