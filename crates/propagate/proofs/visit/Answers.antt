use Rattle.propagate.specs.Loops.{listed_in, visiting_end}
use Rattle.propagate.proofs.visit.Goals as goal

pub walk-cursor-requires : goal.walk-cursor-requires
walk-cursor-requires c = listed_in c.args.s.now c.args.p.0 c.requires.still c.requires.set

pub more-requires-clause-l_bound : goal.more-requires-clause-l_bound
more-requires-clause-l_bound c =
    let k = c.loop-p.invariant.walks in
    listed_in c.loop-p.s c.args.p.0 k.still k.on

pub returns : goal.returns
returns c = visiting_end c.args.s.now c.args.p.0 c.loop-p.s c.loop-p.cursor c.loop-p.invariant c.more.result c.more.ensures c.loop-p-test.false
