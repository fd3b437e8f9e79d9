use Rattle.std.specs.Prelude.{◌-◌}
use Rattle.std.proofs.Common.{arith}
use Rattle.std.proofs.lemmas.List.Sorted.{IsPermutation-trans, IsPermutation-swap, length_permutation}
use Rattle.scratch.proofs.sink.Goals as goal

pub loop-j-preserved : goal.loop-j-preserved
loop-j-preserved c =
    let l = c.loop-j in
    let e = length_permutation _ _ l.invariant.1 in (
      omega arith,
      IsPermutation-trans _ _ _ l.invariant.1 (IsPermutation-swap _ _ l.j (l.j - 1) (omega (arith, e, c.requires)) (omega (arith, e, c.requires)) c.swap.ensures.after),
    )
