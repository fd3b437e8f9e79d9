use Rattle.std.proofs.Common.{◌≡◌, ◌+◌, ◌≤◌, length}
use Rattle.text.specs.Format.{literals}
use Rattle.text.specs.FormatLaws.{counted}
use Rattle.text.specs.Pieces.{words_left}
use Rattle.text.proofs.reading.count_literals.Given as goal

abbrev pub invariant-loop-word : goal.invariant-loop-word
invariant-loop-word l =
    record {
      can_next : (goal.iterator-loop-word).can_next l.word-iterator;
      is_finite : (goal.iterator-loop-word).is_finite l.word-iterator;
      same : counted l.count (literals l.vars.count (words_left l.word-iterator)) ≡ counted 0 (literals l.vars.count (words_left l.words));
      few : l.count + length (words_left l.word-iterator) ≤ length (words_left l.words);
    }
