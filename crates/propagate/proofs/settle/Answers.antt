use Rattle.std.proofs.Common.{refl, sym, ap, ◌∙◌, arith}
use Rattle.trail.specs.View.{enqueued}
use Rattle.watch.specs.Steps.{node_small}
use Rattle.propagate.specs.View.{sets}
use Rattle.propagate.proofs.settle.Goals as goal

pub enqueue-requires-clause-from : goal.enqueue-requires-clause-from
enqueue-requires-clause-from c =
    let a = c.args in
    let p = c.requires in
    omega (arith, node_small a.watches.now c.sound.ensures.chains a.at.list.0 p.at.list a.at.cursor.passed p.at.more, c.sound.ensures.blockers, p.at.node, c.clause.ensures)

pub returns : goal.returns
returns c =
    let t = c.args.trail.now in
    sets c.pass-next.result (sym c.is_false.ensures ∙ c.if-is_false.false)
    (c.enqueue.ensures ∙ ap (enqueued t c.args.q.0) c.clause.ensures) c.pass-next.ensures refl
