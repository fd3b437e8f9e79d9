use Rattle.watch.specs.Stores.{Clearing}
use Rattle.watch.proofs.Watches.new.Given as goal

abbrev pub invariant-loop-x : goal.invariant-loop-x
invariant-loop-x l = Clearing l.size l.initial.table l.table l.x
