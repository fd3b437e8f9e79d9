use Rattle.replay.specs.Cells.{noise}
use Rattle.replay.specs.CellLaws.{Filled}
use Rattle.replay.proofs.fill.Given as goal

abbrev pub invariant-loop-i : goal.invariant-loop-i
invariant-loop-i g l = let of = g.T.Cell.of in Filled (λ i. of (noise i)) (of (noise 0)) l.s l.i
