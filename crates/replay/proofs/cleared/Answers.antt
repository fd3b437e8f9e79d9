use Rattle.std.proofs.Common.{sym, ◌∙◌, arith}
use Rattle.replay.specs.VectorLaws.{cleared_none, cleared_some}
use Rattle.replay.proofs.cleared.Goals as goal

pub returns-then-script-lt6 : goal.returns-then-script-lt6
returns-then-script-lt6 c = sym (cleared_none c.args.script.now (omega arith))

pub returns : goal.returns
returns c = c.engine_work_len.ensures ∙ sym (cleared_some c.args.script.now (omega arith))
