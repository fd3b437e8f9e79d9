use Rattle.text.specs.Answers.{numbered}
use Rattle.text.specs.Prints.{prints_more}
use Rattle.text.proofs.printer.Printer.numbered.Goals as goal

pub returns : goal.returns
unfolding numbered
returns c = prints_more (prints_more c.bytes.ensures c.number.ensures) c.byte.ensures
