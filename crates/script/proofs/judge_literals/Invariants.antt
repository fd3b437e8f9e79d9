use Rattle.model.specs.Script.{literal_rows}
use Rattle.script.specs.Judging.{Same}
use Rattle.script.specs.Rows.{literals_from}
use Rattle.script.proofs.judge_literals.Given as goal

abbrev pub invariant-loop-i : goal.invariant-loop-i
invariant-loop-i l = Same (literal_rows l.v l.first l.literals) (literals_from l.v l.first l.literals l.i)
