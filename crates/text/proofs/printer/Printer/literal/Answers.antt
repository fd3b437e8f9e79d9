use Rattle.std.proofs.Common.{sym, arith}
use Rattle.text.specs.PrintLaws.{literal_even, literal_odd}
use Rattle.text.specs.Prints.{prints_more, prints_as, prints_from}
use Rattle.text.proofs.printer.Printer.literal.Goals as goal
use Rattle.text.proofs.printer.Printer.literal.Goals.{then-l-eq1, else-l-eq1}

pub returns : goal.returns
returns c = elim c.if-l-eq1.branch [
  | then-l-eq1 w ↦ prints_as _ (sym (literal_odd c.args.l (omega arith))) (prints_more w.byte.ensures (prints_from w.self-is c.number.ensures))
  | else-l-eq1 w ↦ prints_as _ (sym (literal_even c.args.l (omega arith))) (prints_from w.self-is c.number.ensures)
]
