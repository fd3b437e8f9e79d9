use Rattle.watch.proofs.Watches.from_parts.Goals as goal

pub invariant_of-result : goal.invariant_of-result
invariant_of-result c = rw c.new-table.ensures c.requires.laid_out

pub returns : goal.returns
returns c = rw c.new-table.ensures
