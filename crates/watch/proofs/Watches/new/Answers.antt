use mathlib.Core.Path.{ap, refl}
use Rattle.watch.specs.View.{Watches, emptied}
use Rattle.watch.specs.Stores.{holds, blockers_length, clear_none, found_room, new_holds}
use Rattle.watch.proofs.Watches.new.Goals as goal

pub loop-x-init : goal.loop-x-init
loop-x-init c = clear_none _ _ (rw c.new-table.ensures (found_room _ _ c.args.cells.now c.requires.bounds.0 c.requires.bounds.1))

pub invariant_of-result : goal.invariant_of-result
invariant_of-result c = (new_holds _ _ c.args.cells.now _ _ c.loop-x-test.false (rw c.new-table.ensures at c.loop-x.invariant)).rep

pub returns-clause-value : goal.returns-clause-value
returns-clause-value c = (new_holds _ _ c.args.cells.now _ _ c.loop-x-test.false (rw c.new-table.ensures at c.loop-x.invariant)).view

pub returns-clause-lists : goal.returns-clause-lists
unfolding emptied
returns-clause-lists c = ap (λ (v : Watches). v.lists) (new_holds _ _ c.args.cells.now _ _ c.loop-x-test.false (rw c.new-table.ensures at c.loop-x.invariant)).view

pub returns-clause-blockers : goal.returns-clause-blockers
returns-clause-blockers c = blockers_length (holds (new_holds _ _ c.args.cells.now _ _ c.loop-x-test.false (rw c.new-table.ensures at c.loop-x.invariant)).rep refl)
