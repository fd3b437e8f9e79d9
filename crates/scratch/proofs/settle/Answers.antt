use Rattle.std.proofs.lemmas.List.Sorted.{IsPermutation-trans}
use Rattle.scratch.proofs.settle.Goals as goal

pub returns-then-left-eq0 : goal.returns-then-left-eq0
returns-then-left-eq0 c = IsPermutation-trans _ _ _ c.loop-i.invariant c.sink-left.ensures

pub loop-i-preserved : goal.loop-i-preserved
loop-i-preserved c = IsPermutation-trans _ _ _ c.loop-i.invariant c.sink-left.ensures
