use Rattle.std.proofs.Common.{◌<◌, arith, length}
use Rattle.intake.specs.Simplifying.{simplifying_judgeable, simplifying_goes, simplifying_stays, simplifying_ends}
use Rattle.intake.proofs.simplify.Goals as goal
use Rattle.intake.proofs.simplify.Goals.{in-Goes, in-Stays}

pub judge-requires : goal.judge-requires
judge-requires c = simplifying_judgeable c.loop-i.invariant (omega (arith, c.loop-i.invariant.size)) _ c.at-l.ensures

pub loop-i-preserved : goal.loop-i-preserved
loop-i-preserved c =
    let g : c.loop-i.i < length c.loop-i.buffer.items = omega (arith, c.loop-i.invariant.size) in
    elim c.match-judge.branch [
      | in-Goes w ↦ rw (w.buffer-is, w.last-is, w.kept-is) (simplifying_goes c.loop-i.invariant g _ c.at-l.ensures (rw w.in-Goes.is at c.judge.ensures))
      | in-Stays w ↦ rw (w.buffer-is, w.last-is, w.kept-is, w.set.ensures) (simplifying_stays c.loop-i.invariant g _ c.at-l.ensures (rw w.in-Stays.is at c.judge.ensures))
    ]

pub returns : goal.returns
returns c = rw c.truncate.ensures (simplifying_ends c.loop-i.invariant (omega (arith, c.loop-i.invariant.size)))
