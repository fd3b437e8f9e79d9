use Rattle.learn.specs.Learned.{ready, second_asks, learned}
use Rattle.learn.proofs.analyze.Goals as goal

pub reduce-requires : goal.reduce-requires
reduce-requires c = ready c.args.s.now c.args.act.now c.args.confl c.requires _ _ c.first_uip.ensures

pub highest_second-requires : goal.highest_second-requires
highest_second-requires c = second_asks c.args.s.now c.args.act.now c.args.confl c.requires _ _ c.first_uip.ensures _ c.reduce.ensures

pub returns : goal.returns
returns c = learned c.args.s.now c.args.act.now c.args.confl c.requires _ _ c.first_uip.ensures _ c.reduce.ensures _ _ c.highest_second.ensures
