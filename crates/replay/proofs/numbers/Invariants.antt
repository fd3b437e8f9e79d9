use Rattle.std.proofs.Common.{◌≡◌, length, take}
use Rattle.text.specs.SplitLaws.{words_of}
use Rattle.replay.specs.Lines.{read_on, line_numbers}
use Rattle.replay.proofs.numbers.Given as goal

abbrev pub invariant-loop-k : goal.invariant-loop-k
invariant-loop-k l = read_on (length l.initial.cells) (take l.k l.cells) (words_of l.left) ≡ line_numbers (length l.initial.cells) l.line
