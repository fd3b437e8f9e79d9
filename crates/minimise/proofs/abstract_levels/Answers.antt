use Rattle.std.proofs.Common.{arith, refl, sym, ◌∙◌}
use Rattle.minimise.specs.Dropping.{levels_step, levels_end}
use Rattle.minimise.proofs.abstract_levels.Goals as goal

pub loop-l-preserved : goal.loop-l-preserved
loop-l-preserved c =
    c.loop-l.invariant
    ∙ levels_step c.args.trail.now.vars c.loop-l.mask c.rest-l-items.result.now c.loop-l.l-index (omega arith) refl (rw c.var.ensures at c.level.ensures) c.abstract_level-mask.ensures

pub returns : goal.returns
returns c =
    sym (c.loop-l.invariant ∙ levels_end c.args.trail.now.vars c.loop-l.mask c.rest-l-items.result.now c.loop-l.l-index (omega arith))
