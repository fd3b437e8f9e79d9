use Rattle.std.proofs.Common.{refl, ◌∙◌, rules}
use Rattle.smallbooks.specs.Score.{none_yet}
use Rattle.smallbooks.proofs.Whole.{listing, booked}
use Rattle.smallbooks.proofs.book.Goals as goal

pub sets-requires : goal.sets-requires
unfolding none_yet
sets-requires c = listing c.args.v c.requires (c.deref.ensures.0 ∙ c.clauses-table.ensures) c.header.ensures refl refl

pub returns : goal.returns
unfolding none_yet
returns c = booked c.sets.ensures.told (c.deref.ensures.0 ∙ c.clauses-table.ensures) c.header.ensures refl refl (search rules) c.put_most.ensures.line c.put_most.ensures.short
