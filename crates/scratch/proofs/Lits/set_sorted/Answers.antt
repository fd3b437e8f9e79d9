use Rattle.std.proofs.lemmas.List.Sorted.{IsPermutation-trans}
use Rattle.scratch.proofs.Lits.set_sorted.Goals as goal

pub returns-clause-moved : goal.returns-clause-moved
returns-clause-moved c = IsPermutation-trans _ _ _ c.lay.ensures.laid c.sort.ensures.moved
