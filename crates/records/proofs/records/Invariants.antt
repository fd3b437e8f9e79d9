use Rattle.reader.specs.Rest.{rest_of}
use Rattle.script.specs.Front.{config_of}
use Rattle.records.specs.Recording.{Recording}
use Rattle.records.proofs.records.Given as goal

abbrev pub invariant-loop-r : goal.invariant-loop-r
invariant-loop-r l =
    record {
      can_next : (goal.iterator-loop-r).can_next l.r-iterator;
      is_finite : (goal.iterator-loop-r).is_finite l.r-iterator;
      recording : Recording (config_of l.script.header) l.script.cells.now l.initial.out l.x (rest_of l.r-iterator) l.written l.out;
    }
