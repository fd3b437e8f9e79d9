use Rattle.std.proofs.Common.{arith, ap, ◌∙◌, refl, length-set}
use Rattle.std.specs.Prelude.{replicate}
use Rattle.litset.specs.Laws.{clearing_starts, clearing_more, clearing_ends, none_shows}
use Rattle.litset.proofs.unflag.Goals as goal

pub loop-l-init : goal.loop-l-init
loop-l-init c = (refl, clearing_starts _ _ c.requires)

pub loop-l-preserved : goal.loop-l-preserved
loop-l-preserved c =
    let v = c.loop-l.invariant in
    (length-set _ _ _ ∙ v.0, clearing_more _ _ c.loop-l.l-index v.1 (omega arith))

pub returns : goal.returns
returns c =
    let v = c.loop-l.invariant in
    none_shows _ (clearing_ends _ _ c.loop-l.l-index v.1 (omega arith)) ∙ ap (λ n. replicate n 0) v.0
