use Rattle.std.proofs.Common.{length, refl, ap}
use Rattle.model.specs.Limits.{header_cells}
use Rattle.model.specs.Script.{slice_rows}
use Rattle.script.specs.Walk.{rows_from}
use Rattle.script.specs.Front.{config_of, header_judged, out_judged, judged_read}
use Rattle.script.specs.Judging.{raised, judged_as, refused_first, second_decides}
use Rattle.script.proofs.Script.read.Goals as goal

pub returns-in_err-header-clause-judged : goal.returns-in_err-header-clause-judged
returns-in_err-header-clause-judged c =
    judged_read c.args.cells.now c.args.work c.args.activities c.args.out _ _ refl (raised c.from_residual.ensures.1 (refused_first _ _ c.in_err-header.ensures.judged))

pub returns-in_err-judge_slices-clause-judged : goal.returns-in_err-judge_slices-clause-judged
returns-in_err-judge_slices-clause-judged c =
    let a = c.args in
    let h = c.in_ok-header.ensures in
    judged_read a.cells.now a.work a.activities a.out _ _ h.header
    (raised c.from_residual-in_err-judge_slices.ensures.1
    (second_decides {t = c.in_ok-header.header} _ _ (header_judged (length a.cells.now) h.header h.judged) (refused_first _ _ c.in_err-judge_slices.ensures)))

pub returns-in_err-script-clause-judged : goal.returns-in_err-script-clause-judged
returns-in_err-script-clause-judged c =
    let a = c.args in
    let h = c.in_ok-header.ensures in
    judged_read a.cells.now a.work a.activities a.out _ _ h.header
    (raised c.from_residual-in_err-script.ensures.1
    (second_decides {t = c.in_ok-header.header} _ _ (header_judged (length a.cells.now) h.header h.judged)
    (second_decides (slice_rows (config_of c.in_ok-header.header) a.work a.activities) _ c.in_ok-judge_slices.ensures
    (refused_first _ _ c.in_err-script.ensures.judged))))

pub returns-in_err-judge_out-clause-judged : goal.returns-in_err-judge_out-clause-judged
returns-in_err-judge_out-clause-judged c =
    let a = c.args in
    let h = c.in_ok-header.ensures in
    let w = c.in_ok-script.ensures in
    judged_read a.cells.now a.work a.activities a.out _ _ h.header
    (raised c.from_residual-in_err-judge_out.ensures.1
    (second_decides {t = c.in_ok-header.header} _ _ (header_judged (length a.cells.now) h.header h.judged)
    (second_decides (slice_rows (config_of c.in_ok-header.header) a.work a.activities) _ c.in_ok-judge_slices.ensures
    (second_decides (rows_from c.in_ok-header.header.variables a.cells.now header_cells) _ w.judged
    (out_judged c.in_ok-header.header.variables a.cells.now a.out (ap (λ h. h.variables) w.script.1) (ap (λ b. b.now) w.script.0) c.in_err-judge_out.ensures)))))

pub returns-clause-judged : goal.returns-clause-judged
returns-clause-judged c =
    let a = c.args in
    let h = c.in_ok-header.ensures in
    let w = c.in_ok-script.ensures in
    judged_read a.cells.now a.work a.activities a.out _ _ h.header
    (judged_as c.in_ok-script.script _
    (second_decides {t = c.in_ok-header.header} _ _ (header_judged (length a.cells.now) h.header h.judged)
    (second_decides (slice_rows (config_of c.in_ok-header.header) a.work a.activities) _ c.in_ok-judge_slices.ensures
    (second_decides (rows_from c.in_ok-header.header.variables a.cells.now header_cells) _ w.judged
    (out_judged c.in_ok-header.header.variables a.cells.now a.out (ap (λ h. h.variables) w.script.1) (ap (λ b. b.now) w.script.0) c.in_ok-judge_out.ensures)))))
