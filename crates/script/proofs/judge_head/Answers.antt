use Rattle.std.proofs.Common.{◌+◌, ℕ, length, refl, ap, ◌∙◌, arith, leb-true}
use Rattle.model.specs.Script.{most_count, trailing}
use Rattle.script.specs.Kinds.{cell_of, trailing_le}
use Rattle.script.specs.Judging.{accepted_hold, raised, first_stops, first_passes}
use Rattle.script.specs.Rows.{head_judged}
use Rattle.script.proofs.judge_head.Goals as goal

pub returns-in_err-kind : goal.returns-in_err-kind
returns-in_err-kind c = raised c.from_residual.ensures.1 (first_stops c.in_err-kind.ensures.judged)

pub returns-in_err-check : goal.returns-in_err-check
returns-in_err-check c =
    head_judged c.args.v c.args.script.now c.args.at c.requires _ _ refl refl
    (raised c.from_residual-in_err-check.ensures.1 (first_passes c.in_ok-kind.ensures.judged (first_stops c.in_err-check.ensures)))

pub bounds-script-at-2 : goal.bounds-script-at-2
bounds-script-at-2 c = omega (arith, leb-true (c.args.at + 2) (length c.args.script.now) (accepted_hold _ c.in_ok-check.ensures).0)

pub returns-in_err-check-2 : goal.returns-in_err-check-2
returns-in_err-check-2 c =
    head_judged c.args.v c.args.script.now c.args.at c.requires _ _ (c.most_count.ensures ∙ ap (λ (k : ℕ). most_count k c.args.v) c.in_ok-kind.ensures.kind) refl
    (raised c.from_residual-in_err-check-2.ensures.1 (first_passes c.in_ok-kind.ensures.judged (first_passes c.in_ok-check.ensures (first_stops c.in_err-check-2.ensures))))

pub overflow_add-count-2 : goal.overflow_add-count-2
overflow_add-count-2 c = omega (arith, c.trailing.ensures, trailing_le (cell_of c.in_ok-kind.kind))

pub overflow_sub-end : goal.overflow_sub-end
overflow_sub-end c = leb-true (c.args.at + 2) (length c.args.script.now) (accepted_hold _ c.in_ok-check.ensures).0

pub returns : goal.returns
returns c =
    head_judged c.args.v c.args.script.now c.args.at c.requires _ _ (c.most_count.ensures ∙ ap (λ (k : ℕ). most_count k c.args.v) c.in_ok-kind.ensures.kind)
    (c.trailing.ensures ∙ ap trailing c.in_ok-kind.ensures.kind)
    (first_passes c.in_ok-kind.ensures.judged (first_passes c.in_ok-check.ensures (first_passes c.in_ok-check-2.ensures c.check-3.ensures)))
