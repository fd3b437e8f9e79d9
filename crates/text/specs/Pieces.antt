-- What the iterators over words and lines have left, in order.
use Rattle.std.specs.Prelude.{ℕ, List}
use Rattle.text.specs.Split.{lines}
use Rattle.text.specs.SplitLaws.{words_of}
use Rattle.text.specs.declared.pieces.Words.{Words}
use Rattle.text.specs.declared.pieces.Lines.{Lines}

abbrev pub words_left : Words → List (List ℕ)
words_left w = words_of w.left

abbrev pub lines_left : Lines → List (List ℕ)
lines_left l = lines l.left.now
