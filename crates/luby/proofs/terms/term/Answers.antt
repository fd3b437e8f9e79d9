use mathlib.Core.Path.{refl}
use Rattle.model.specs.Luby.{climb, descend, luby}
use Rattle.luby.specs.Table.{right}
use Rattle.luby.proofs.terms.term.Goals as goal

-- the test is computed over the whole table

pub entry-requires : goal.entry-requires
unfolding right luby climb descend
entry-requires c = record { checked = record { whole = refl; passes = refl }; x_lt_count = c.requires }
