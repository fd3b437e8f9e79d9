use Rattle.counter.proofs.JudgeLaws.{room_is}
use Rattle.counter.proofs.judge.judge_room.Goals as goal

pub returns : goal.returns
returns c =
    let a = c.args in
    rw (← room_is a.literals.now a.k a.first c.len-need.result c.requires c.len-need.ensures) c.check.ensures
