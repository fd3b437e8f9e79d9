use Rattle.script.specs.Judging.{raised, first_stops, first_passes}
use Rattle.counter.proofs.judge.judge_call.Goals as goal

pub returns-in_err-check : goal.returns-in_err-check
returns-in_err-check c = rw (← c.from_one.ensures) (raised c.from_residual.ensures.1 (first_stops c.in_err-check.ensures))

pub returns-in_err-check-2 : goal.returns-in_err-check-2
returns-in_err-check-2 c =
    rw (← c.from_one.ensures, ← c.from_one-2.ensures)
    (raised c.from_residual-in_err-check-2.ensures.1 (first_passes c.in_ok-check.ensures (first_stops c.in_err-check-2.ensures)))

pub returns : goal.returns
returns c =
    rw (← c.from_one.ensures, ← c.from_one-2.ensures, ← c.in_range.ensures)
    (first_passes c.in_ok-check.ensures (first_passes c.in_ok-check-2.ensures c.check-3.ensures))
