use mathlib.Core.Path.{refl, sym, ◌∙◌}
use Rattle.counter.proofs.JudgeLaws.{distinct_here, distinct_fails, distinct_none}
use Rattle.counter.proofs.judge.distinct.Goals as goal

pub returns-then-is_named : goal.returns-then-is_named
returns-then-is_named c =
    let l = c.loop-left in
    sym (l.invariant ∙ distinct_fails l.left.now _ c.in-len1-up.len_at_least refl (sym c.is_named.ensures ∙ c.if-is_named.true))

pub loop-left-preserved : goal.loop-left-preserved
loop-left-preserved c =
    let l = c.loop-left in
    l.invariant ∙ distinct_here l.left.now _ c.in-len1-up.len_at_least refl (sym c.is_named.ensures ∙ c.if-is_named.false)

pub returns : goal.returns
returns c =
    let l = c.loop-left in
    sym (l.invariant ∙ distinct_none l.left.now c.in_default.len_below)
