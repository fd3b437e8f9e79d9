use Rattle.std.proofs.Common.{◌≡◌, rules, refl, sym, ◌∙◌, length, length-take-le, Err}
use Rattle.text.specs.Limits.{max_cells}
use Rattle.loadsat.specs.Laws.{printed_as, run_refused, run_ran, text_refused, cells_in, script_short, text_script}
use Rattle.loadsat.proofs.Workspace.answer.Goals as goal

pub slice_bounds-script-end : goal.slice_bounds-script-end
slice_bounds-script-end c =
    let s : length c.args.self.now.script ≡ max_cells = search rules in
    sym (length-take-le c.in_ok-read.read.cells c.read.new.script (cells_in _ s c.read.ensures _ c.in_ok-read.was))

pub returns-in_err-read-clause-refusal : goal.returns-in_err-read-clause-refusal
returns-in_err-read-clause-refusal c =
    let s : length c.args.self.now.script ≡ max_cells = search rules in
    let r : c.from_residual.result ≡ Err c.in_err-read.field-0.0 = search rules in
    rw r (refl, text_refused _ s c.read.ensures _ _ _ c.in_err-read.field-0.0 c.in_err-read.was)

pub returns-in_err-run-clause-refusal : goal.returns-in_err-run-clause-refusal
returns-in_err-run-clause-refusal c =
    let s : length c.args.self.now.script ≡ max_cells = search rules in
    let r : c.from_residual-in_err-run.result ≡ Err c.in_err-run.field-0.0 = search rules in
    rw r (refl, run_refused c.run.ensures c.in_err-run.field-0.0 c.in_err-run.was ∙ text_script _ s c.read.ensures _ c.in_ok-read.was _ _ _)

pub print-requires : goal.print-requires
print-requires c =
    let s : length c.args.self.now.script ≡ max_cells = search rules in
    (script_short _ s c.read.ensures _ c.in_ok-read.was c.read.auto.script, search rules, c.requires)

pub returns-clause-answers : goal.returns-clause-answers
returns-clause-answers c =
    let s : length c.args.self.now.script ≡ max_cells = search rules in
    printed_as _ c.print.ensures (run_ran c.run.ensures _ c.in_ok-run.was ∙ text_script _ s c.read.ensures _ c.in_ok-read.was _ _ _)
