use Rattle.std.proofs.Common.{sym}
use Rattle.text.specs.PrintLaws.{spaced_first, spaced_later}
use Rattle.text.specs.Prints.{prints_more, prints_as, prints_from}
use Rattle.text.proofs.printer.Printer.spaced.Goals as goal
use Rattle.text.proofs.printer.Printer.spaced.Goals.{then-i-ne0, else-i-ne0}

pub returns : goal.returns
returns c = elim c.if-i-ne0.branch [
  | then-i-ne0 w ↦ prints_as _ (sym (spaced_later c.args.i _ w.if-i-ne0.true)) (prints_more w.byte.ensures (prints_from w.self-is c.literal.ensures))
  | else-i-ne0 w ↦ prints_as _ (sym (spaced_first c.args.i _ w.if-i-ne0.false)) (prints_from w.self-is c.literal.ensures)
]
