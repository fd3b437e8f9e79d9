use Rattle.model.specs.Script.{slice_rows}
use Rattle.script.specs.Judging.{raised, first_stops, first_passes}
use Rattle.script.proofs.Header.judge_slices.Goals as goal

pub returns-in_err-check : goal.returns-in_err-check
unfolding slice_rows
returns-in_err-check c = rw (← c.work_len-need.ensures) (raised c.from_residual.ensures.1 (first_stops c.in_err-check.ensures))

pub returns : goal.returns
unfolding slice_rows
returns c = rw (← c.work_len-need.ensures, ← c.from-v.ensures) (first_passes c.in_ok-check.ensures c.check-2.ensures)
