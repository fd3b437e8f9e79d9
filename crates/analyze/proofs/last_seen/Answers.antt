use Rattle.std.proofs.Common.{◌≡◌, ◌-◌, get_or, sym, ap, ◌∙◌}
use Rattle.model.specs.Lit.{var}
use Rattle.analyze.specs.Walking.{last_here, last_later, last_none}
use Rattle.analyze.proofs.last_seen.Goals as goal

pub returns-then-is_set : goal.returns-then-is_set
returns-then-is_set c =
    let v : c.var.result.0 ≡ var (get_or c.args.trail.now.vars.trail (c.loop-k.k - 1) 0) = c.var.ensures ∙ ap var c.at.ensures in
    sym (last_here _ _ _ c.loop-k-test.true (sym (rw v at c.is_set.ensures) ∙ c.if-is_set.true)) ∙ c.loop-k.invariant

pub loop-k-preserved : goal.loop-k-preserved
loop-k-preserved c =
    let v : c.var.result.0 ≡ var (get_or c.args.trail.now.vars.trail (c.loop-k.k - 1) 0) = c.var.ensures ∙ ap var c.at.ensures in
    last_later _ _ _ c.loop-k-test.true (sym (rw v at c.is_set.ensures) ∙ c.if-is_set.false) ∙ c.loop-k.invariant

pub returns : goal.returns
returns c = last_none _ _ _ c.loop-k-test.false ∙ c.loop-k.invariant
