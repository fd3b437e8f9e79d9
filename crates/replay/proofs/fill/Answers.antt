use Rattle.std.proofs.Common.{length, arith}
use Rattle.replay.specs.Cells.{noise}
use Rattle.replay.specs.CellLaws.{filled-all}
use Rattle.replay.proofs.fill.Goals as goal

pub returns : goal.returns
returns g c =
    let of = g.T.Cell.of in
    let l = c.loop-i in
    filled-all (λ i. of (noise i)) (of (noise 0)) l.s l.i (length c.args.s.now) (omega arith) l.auto.s l.invariant
