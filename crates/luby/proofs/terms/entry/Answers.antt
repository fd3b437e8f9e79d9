use Rattle.luby.specs.Table.{entry_term}
use Rattle.luby.proofs.terms.entry.Goals as goal

pub returns : goal.returns
returns c = rw c.into.ensures (entry_term c.args.table.now c.requires.checked c.args.x c.requires.x_lt_count)
