use Rattle.std.proofs.Common.{arith}
use Rattle.search.specs.Turning.{halts, goes}
use Rattle.search.proofs.on_no_conflict.Goals as goal

pub returns-then-nof-n : goal.returns-then-nof-n
returns-then-nof-n c =
    halts c.args.x.now c.args.q.assumptions.now c.args.n c.args.q.budget c.args.nof c.then-nof-n.either c.cancel_until.ensures.has c.cancel_until.ensures.beside

pub returns-in-Decided : goal.returns-in-Decided
returns-in-Decided c =
    goes c.args.x.now c.args.q.assumptions.now c.args.n c.args.q.budget c.args.nof (omega (arith, c.if-nof-n.false)) (omega (arith, c.if-q-n.false)) c.in-Decided.ensures

pub returns-in-Complete : goal.returns-in-Complete
returns-in-Complete c =
    goes c.args.x.now c.args.q.assumptions.now c.args.n c.args.q.budget c.args.nof (omega (arith, c.if-nof-n.false)) (omega (arith, c.if-q-n.false)) c.in-Complete.ensures

pub returns-in-Failed : goal.returns-in-Failed
returns-in-Failed c =
    goes c.args.x.now c.args.q.assumptions.now c.args.n c.args.q.budget c.args.nof (omega (arith, c.if-nof-n.false)) (omega (arith, c.if-q-n.false)) c.in-Failed.ensures
