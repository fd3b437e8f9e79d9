use Rattle.std.proofs.Common.{ap, arith, ℕ}
use Rattle.text.specs.Kinds.{cell_of}
use Rattle.text.specs.PrintLaws.{listed_turn, listed_end}
use Rattle.text.specs.Prints.{printing_more, printing_done, prints_as}
use Rattle.text.specs.Answers.{spaced}
use Rattle.text.specs.Number.{shown_literal}
use Rattle.text.proofs.printer.Printer.items.Goals as goal

pub loop-i-preserved : goal.loop-i-preserved
loop-i-preserved c =
    let v = cell_of c.args.verdict in
    printing_more _ c.loop-i.invariant (listed_turn v c.loop-i.i c.args.cells.now (omega arith))
    (prints_as _ (ap (λ (l : ℕ). spaced c.loop-i.i (shown_literal l)) c.item.ensures) c.spaced.ensures)

pub returns : goal.returns
returns c = printing_done c.loop-i.invariant (listed_end (cell_of c.args.verdict) c.loop-i.i c.args.cells.now (omega arith))
