use Rattle.std.proofs.Common.{arith}
use Rattle.text.specs.WriteLaws.{lines_are}
use Rattle.text.proofs.printing.number_lines.Goals as goal

pub returns : goal.returns
returns c = lines_are _ _ c.loop-i.auto.lines (λ k h. c.loop-i.invariant k (omega arith))
