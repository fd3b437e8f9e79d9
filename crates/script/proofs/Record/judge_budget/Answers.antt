use Rattle.script.specs.Judging.{done}
use Rattle.script.proofs.Record.judge_budget.Goals as goal

pub returns-in-Clause : goal.returns-in-Clause
returns-in-Clause c = rw c.in-Clause.is done
