use Rattle.std.proofs.Common.{List, ℕ, min, length, refl, ap, ◌∙◌}
use Rattle.model.specs.Limits.{header_cells}
use Rattle.model.specs.Script.{out_needed}
use Rattle.script.specs.Walk.{records_from}
use Rattle.script.specs.Front.{config_of, header_judged}
use Rattle.script.specs.Needs.{max_cells, len_header, len_refused, len_accepted}
use Rattle.script.proofs.out_len.Goals as goal

pub returns-in_default : goal.returns-in_default
returns-in_default c = len_header c.args.script.now _ refl c.in_default.ensures.judged

pub returns-in-Ok-walk : goal.returns-in-Ok-walk
returns-in-Ok-walk c =
    let h = c.in-Ok.ensures in
    let s = c.args.script.now in
    let w = c.in-Ok-walk.ensures in
    c.out_capped.ensures
    ∙ ap (λ (v : ℕ). min (out_needed v (records_from c.in-Ok-walk.script.cells.now header_cells)) max_cells) (ap (λ h. h.variables) w.script.1)
    ∙ ap (λ (x : List ℕ). min (out_needed c.in-Ok.header.variables (records_from x header_cells)) max_cells) (ap (λ b. b.now) w.script.0)
    ∙ len_accepted s (config_of c.in-Ok.header) h.header (header_judged (length s) h.header h.judged) w.judged

pub returns-in-Err : goal.returns-in-Err
returns-in-Err c =
    let h = c.in-Ok.ensures in
    let s = c.args.script.now in
    len_refused s (config_of c.in-Ok.header) h.header (header_judged (length s) h.header h.judged) c.in-Err.ensures.judged
