use Rattle.std.proofs.Common.{◌≡◌, ℕ, List, ◌+◌, length, ap, ◌∙◌}
use Rattle.script.specs.Kinds.{literals_of}
use Rattle.script.specs.Walk.{literals_at, end_at, literals-record, end-literals, head_rows, body_rows, literals_rows, last_rows}
use Rattle.script.specs.Judging.{accepted_hold, raised, judged_as, refused_first, second_decides}
use Rattle.script.specs.Sound.{whole_of}
use Rattle.script.specs.Rows.{literals_judged, budget_judged}
use Rattle.script.proofs.judge_record.Goals as goal

pub returns-in_err-judge_head-clause-judged : goal.returns-in_err-judge_head-clause-judged
returns-in_err-judge_head-clause-judged c =
    let a = c.args in
    raised c.from_residual.ensures.1 (refused_first (head_rows a.v a.script.now a.at) (body_rows a.v a.script.now a.at) c.in_err-judge_head.ensures)

pub read-record-requires : goal.read-record-requires
read-record-requires c =
    let a = c.args in
    whole_of a.v a.script.now a.at c.requires (accepted_hold (head_rows a.v a.script.now a.at) c.in_ok-judge_head.ensures)

pub returns-in_err-judge_literals-clause-judged : goal.returns-in_err-judge_literals-clause-judged
returns-in_err-judge_literals-clause-judged c =
    let a = c.args in
    let ls : c.literals-literals.result.now ≡ literals_at a.script.now a.at =
    c.literals-literals.ensures ∙ ap literals_of c.read-record.ensures ∙ literals-record a.script.now a.at in
    raised c.from_residual-in_err-judge_literals.ensures.1
    (second_decides (head_rows a.v a.script.now a.at) (body_rows a.v a.script.now a.at) c.in_ok-judge_head.ensures
    (refused_first (literals_rows a.v a.script.now a.at) (last_rows a.script.now a.at)
    (literals_judged a.v a.script.now a.at _ ls c.in_err-judge_literals.ensures)))

pub returns-in_err-judge_budget-clause-judged : goal.returns-in_err-judge_budget-clause-judged
returns-in_err-judge_budget-clause-judged c =
    let a = c.args in
    let ls : c.literals-literals.result.now ≡ literals_at a.script.now a.at =
    c.literals-literals.ensures ∙ ap literals_of c.read-record.ensures ∙ literals-record a.script.now a.at in
    let whole = whole_of a.v a.script.now a.at c.requires (accepted_hold (head_rows a.v a.script.now a.at) c.in_ok-judge_head.ensures) in
    let end : a.at + 2 + length c.literals-literals.result.now ≡ end_at a.script.now a.at =
    ap (λ (x : List ℕ). a.at + 2 + length x) ls ∙ end-literals a.script.now a.at whole in
    raised c.from_residual-in_err-judge_budget.ensures.1
    (second_decides (head_rows a.v a.script.now a.at) (body_rows a.v a.script.now a.at) c.in_ok-judge_head.ensures
    (second_decides (literals_rows a.v a.script.now a.at) (last_rows a.script.now a.at)
    (literals_judged a.v a.script.now a.at _ ls c.in_ok-judge_literals.ensures)
    (budget_judged a.v a.script.now a.at _ _ c.read-record.ensures end c.in_err-judge_budget.ensures)))

pub returns-clause-judged : goal.returns-clause-judged
returns-clause-judged c =
    let a = c.args in
    let ls : c.literals-literals.result.now ≡ literals_at a.script.now a.at =
    c.literals-literals.ensures ∙ ap literals_of c.read-record.ensures ∙ literals-record a.script.now a.at in
    let whole = whole_of a.v a.script.now a.at c.requires (accepted_hold (head_rows a.v a.script.now a.at) c.in_ok-judge_head.ensures) in
    let end : a.at + 2 + length c.literals-literals.result.now ≡ end_at a.script.now a.at =
    ap (λ (x : List ℕ). a.at + 2 + length x) ls ∙ end-literals a.script.now a.at whole in
    judged_as c.read-record.result _
    (second_decides (head_rows a.v a.script.now a.at) (body_rows a.v a.script.now a.at) c.in_ok-judge_head.ensures
    (second_decides (literals_rows a.v a.script.now a.at) (last_rows a.script.now a.at)
    (literals_judged a.v a.script.now a.at _ ls c.in_ok-judge_literals.ensures)
    (budget_judged a.v a.script.now a.at _ _ c.read-record.ensures end c.in_ok-judge_budget.ensures)))

pub returns-clause-record : goal.returns-clause-record
returns-clause-record c =
    let a = c.args in
    (c.read-record.ensures, whole_of a.v a.script.now a.at c.requires (accepted_hold (head_rows a.v a.script.now a.at) c.in_ok-judge_head.ensures))
