use Rattle.std.proofs.Common.{length}
use Rattle.text.specs.Answers.{kinds, printed_records, printed}
use Rattle.text.specs.Prints.{Printing}
use Rattle.text.proofs.printing.print.Given as goal

abbrev pub invariant-loop-records : goal.invariant-loop-records
invariant-loop-records l = Printing l.initial.printer l.printer (printed_records (kinds 0 l.records) l.lines l.out) (printed l.fn.script l.fn.lines l.fn.out)

abbrev pub decreases-loop-records : goal.decreases-loop-records
decreases-loop-records l = length l.records
