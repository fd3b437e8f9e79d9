use Rattle.loadsat.proofs.Reading.{further, within}
use Rattle.loadsat.proofs.read_all.Goals as goal

pub loop-n-preserved : goal.loop-n-preserved
loop-n-preserved g c =
    let e = c.in_ok-k.ensures in (
      within c.loop-n.input c.read.new.buf _ c.loop-n.n c.in_ok-k.k c.loop-n.invariant.0 e.bound.0,
      further _ _ _ c.loop-n.input c.read.new.buf _ c.loop-n.n c.in_ok-k.k c.loop-n.invariant.0 e.bound.0 c.loop-n.invariant.1 e.bytes.0,
    )
