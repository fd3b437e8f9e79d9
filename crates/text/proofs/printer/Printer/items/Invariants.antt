use Rattle.std.proofs.Common.{drop}
use Rattle.text.specs.Answers.{listed}
use Rattle.text.specs.Kinds.{cell_of}
use Rattle.text.specs.Prints.{Printing}
use Rattle.text.proofs.printer.Printer.items.Given as goal

abbrev pub invariant-loop-i : goal.invariant-loop-i
invariant-loop-i l = Printing l.initial.self l.self (listed (cell_of l.verdict) l.i (drop l.i l.cells)) (listed (cell_of l.verdict) 0 l.cells)
