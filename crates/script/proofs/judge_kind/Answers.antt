use Rattle.script.specs.Kinds.{known_of}
use Rattle.script.specs.Judging.{done, pass, stop}
use Rattle.script.proofs.judge_kind.Goals as goal

pub returns-in-Ok-clause-judged : goal.returns-in-Ok-clause-judged
returns-in-Ok-clause-judged c = pass (known_of c.in-Ok.kind _ c.in-Ok.ensures) done

pub returns-in-Err-clause-judged : goal.returns-in-Err-clause-judged
returns-in-Err-clause-judged c = rw c.in-Err.ensures.0 (stop c.in-Err.ensures.1)
