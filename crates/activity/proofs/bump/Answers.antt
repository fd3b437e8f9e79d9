use Rattle.std.proofs.Common.{refl, ap, ◌∙◌}
use Rattle.activity.specs.Activities.{activity, scaled, bump_over, bump_under}
use Rattle.activity.proofs.bump.Goals as goal

pub returns-then-x : goal.returns-then-x
returns-then-x c =
    ap (λ acts. activity acts (scaled c.args.inc)) c.rescale.ensures ∙ bump_over c.args.act.now c.args.inc refl c.args.v.0 c.if-x.true

pub returns-else-x : goal.returns-else-x
returns-else-x c = bump_under c.args.act.now c.args.inc refl c.args.v.0 c.if-x.false
