use Rattle.std.proofs.Common.{◌≡◌, ◌++◌, take}
use Rattle.text.specs.FormatLaws.{good}
use Rattle.text.specs.Pieces.{words_left}
use Rattle.text.proofs.reading.put_literals.Given as goal

abbrev pub invariant-loop-cell : goal.invariant-loop-cell
invariant-loop-cell l = take l.cell-index l.cell-items ++ good l.vars.count (words_left l.words) ≡ good l.vars.count (words_left l.fn.words)
