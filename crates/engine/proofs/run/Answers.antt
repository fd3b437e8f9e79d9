use Rattle.script.specs.Accepted.{judged_accepted}
use Rattle.engine.specs.Answering.{no_cells, some_cells, runs_none, runs_raised, runs_accepted}
use Rattle.engine.proofs.run.Goals as goal

pub returns-then-is_empty : goal.returns-then-is_empty
returns-then-is_empty c = runs_none c.args.script.now c.args.work.now c.args.activities.now c.args.out.now (no_cells _ c.if-is_empty.ensures)

pub returns-in_err-script : goal.returns-in_err-script
returns-in_err-script c =
    runs_raised c.args.script.now c.args.work.now c.args.activities.now c.args.out.now (some_cells _ c.if-is_empty.ensures) _ _ c.from_residual.ensures.1
    c.in_err-script.ensures.judged

pub run_accepted-cells-requires : goal.run_accepted-cells-requires
run_accepted-cells-requires c =
    rw c.in_ok-script.ensures.script (judged_accepted c.args.script.now _ _ _ c.in_ok-script.ensures.judged)

pub returns : goal.returns
returns c =
    let r = rw c.in_ok-script.ensures.script at c.run_accepted-cells.ensures in
    runs_accepted c.args.script.now c.args.work.now c.args.activities.now c.args.out.now
    (judged_accepted c.args.script.now _ _ _ c.in_ok-script.ensures.judged) _ _ _ _ r.written r.work_after r.activities_after
