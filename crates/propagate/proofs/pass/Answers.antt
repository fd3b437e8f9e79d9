use Rattle.watch.specs.Steps.{node_small}
use Rattle.propagate.proofs.pass.Goals as goal

pub set_blocker-requires : goal.set_blocker-requires
set_blocker-requires c =
    let a = c.args in
    let p = c.requires in
    rw p.node (node_small a.watches.now c.sound.ensures.chains a.at.list.0 p.list a.at.cursor.passed p.more)
