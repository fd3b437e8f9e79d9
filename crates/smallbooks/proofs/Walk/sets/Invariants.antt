use Rattle.std.proofs.Common.{◌≡◌}
use Rattle.smallbooks.specs.Tell.{Telling}
use Rattle.smallbooks.proofs.Walk.sets.Given as goal

abbrev pub invariant-loop-k : goal.invariant-loop-k
invariant-loop-k l = record {
  telling : Telling l.k l.initial.self l.self l.table;
  same_reference : l.self.printer.ghost_name ≡ l.initial.self.printer.ghost_name;
}
