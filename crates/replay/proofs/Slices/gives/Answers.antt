use Rattle.std.proofs.Common.{sym, ◌∙◌, eq-eqb, ne_eqb}
use Rattle.replay.specs.CellLaws.{and_first, and_next}
use Rattle.replay.specs.VectorLaws.{passes_ran, passes_refused}
use Rattle.replay.proofs.Slices.gives.Goals as goal

pub returns-then-refusal-eq0 : goal.returns-then-refusal-eq0
returns-then-refusal-eq0 c =
    let a = c.args in
    let f = c.fill.ensures in
    let u = c.run in
    and_next _ _ c.is_run.result (eq-eqb a.refusal 0 c.if-refusal-eq0.true) c.is_run.ensures
    ∙ sym (passes_ran a.script.now a.want.now a.refused_at _ _ _ _ _ _ u.ensures f.work f.activities f.out u.auto.work u.auto.activities u.auto.out a.refusal _ c.in-Ok.is)

pub returns-else-refusal-eq0 : goal.returns-else-refusal-eq0
returns-else-refusal-eq0 c =
    let a = c.args in
    let f = c.fill.ensures in
    let u = c.run in
    let e = ne_eqb a.refusal 0 c.if-refusal-eq0.false in
    e ∙ and_first _ _ e
    ∙ sym (passes_ran a.script.now a.want.now a.refused_at _ _ _ _ _ _ u.ensures f.work f.activities f.out u.auto.work u.auto.activities u.auto.out a.refusal _ c.in-Ok.is)

pub returns-then-is_refusal : goal.returns-then-is_refusal
returns-then-is_refusal c =
    let a = c.args in
    let f = c.fill.ensures in
    let u = c.run in
    and_next _ _ c.is_untouched.result (sym c.is_refusal.ensures ∙ c.if-is_refusal.true) c.is_untouched.ensures
    ∙ sym (passes_refused a.script.now a.want.now a.refused_at _ _ _ _ _ _ u.ensures f.work f.activities f.out u.auto.work u.auto.activities u.auto.out a.refusal _ c.in-Err.is)

pub returns-else-is_refusal : goal.returns-else-is_refusal
returns-else-is_refusal c =
    let a = c.args in
    let f = c.fill.ensures in
    let u = c.run in
    c.if-is_refusal.false ∙ and_first _ _ (sym c.is_refusal.ensures ∙ c.if-is_refusal.false)
    ∙ sym (passes_refused a.script.now a.want.now a.refused_at _ _ _ _ _ _ u.ensures f.work f.activities f.out u.auto.work u.auto.activities u.auto.out a.refusal _ c.in-Err.is)
