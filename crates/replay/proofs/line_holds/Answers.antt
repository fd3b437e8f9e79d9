use Rattle.replay.specs.LineLaws.{holds_line}
use Rattle.replay.proofs.line_holds.Goals as goal

pub returns : goal.returns
returns c = holds_line _ c.args.line.now _ c.holds.result c.holds.ensures c.numbers-n.ensures.1
