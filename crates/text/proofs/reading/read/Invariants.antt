use Rattle.text.specs.Format.{read_text}
use Rattle.text.specs.Pieces.{lines_left}
use Rattle.text.specs.ReadLaws.{Reached}
use Rattle.text.proofs.reading.read.Given as goal

abbrev pub invariant-loop-line : goal.invariant-loop-line
invariant-loop-line l =
    record {
      can_next : (goal.iterator-loop-line).can_next l.line-iterator;
      is_finite : (goal.iterator-loop-line).is_finite l.line-iterator;
      reached : Reached l.room l.n l.used l.vars l.script l.initial.script (lines_left l.line-iterator) (read_text l.room l.text);
    }
