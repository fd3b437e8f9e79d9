use lib.ListN.{length}
use Rattle.script.specs.Judging.{raised, first_stops, first_passes}
use Rattle.counter.proofs.JudgeLaws.{helpers_small}
use Rattle.counter.proofs.judge.judge_names.Goals as goal

pub returns-in_err-check : goal.returns-in_err-check
returns-in_err-check c = rw (← c.distinct.ensures) (raised c.from_residual.ensures.1 (first_stops c.in_err-check.ensures))

pub all_apart-requires : goal.all_apart-requires
all_apart-requires c = rw c.helpers-used.ensures (helpers_small c.args.k (length c.args.literals.now) c.requires)

pub returns-in_err-check-2 : goal.returns-in_err-check-2
returns-in_err-check-2 c =
    rw (← c.distinct.ensures, ← c.helpers-used.ensures, ← c.all_apart.ensures)
    (raised c.from_residual-in_err-check-2.ensures.1 (first_passes c.in_ok-check.ensures (first_stops c.in_err-check-2.ensures)))

pub helpers_fit-requires : goal.helpers_fit-requires
helpers_fit-requires c = rw c.helpers-used.ensures (helpers_small c.args.k (length c.args.literals.now) c.requires)

pub returns : goal.returns
returns c =
    rw (← c.distinct.ensures, ← c.helpers-used.ensures, ← c.all_apart.ensures, ← c.helpers_fit.ensures)
    (first_passes c.in_ok-check.ensures (first_passes c.in_ok-check-2.ensures c.check-3.ensures))
