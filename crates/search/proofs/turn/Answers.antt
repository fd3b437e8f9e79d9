use Rattle.std.proofs.Common.{refl}
use Rattle.search.specs.Turning.{clash_asks, clash_turned, rest_running, rest_turned}
use Rattle.search.proofs.turn.Goals as goal

pub on_conflict-requires-clause-conflicting : goal.on_conflict-requires-clause-conflicting
on_conflict-requires-clause-conflicting c = clash_asks c.args.q.assumptions.now c.args.x.now c.requires.running c.in-Some.ensures refl

pub on_no_conflict-requires : goal.on_no_conflict-requires
on_no_conflict-requires c = rest_running c.args.q.assumptions.now c.args.x.now c.requires.running c.in-None.ensures refl

pub returns-in-Some : goal.returns-in-Some
returns-in-Some c =
    clash_turned c.args.q.assumptions.now c.args.x.now c.requires.running c.in-Some.ensures refl c.args.q.budget c.args.nof c.args.n.now c.on_conflict.ensures

pub returns-in-None : goal.returns-in-None
returns-in-None c =
    rest_turned c.args.q.assumptions.now c.args.x.now c.requires.running c.in-None.ensures refl c.args.q.budget c.args.nof c.args.n.now c.on_no_conflict.ensures
