use Rattle.std.proofs.Common.{sym, ap, ◌∙◌, subst, set}
use Rattle.scratch.specs.Row.{Row}
use Rattle.litset.specs.View.{Rep, members}
use Rattle.litset.specs.Laws.{absent, present, inserted_member, inserted_last, inserted_new}
use Rattle.litset.proofs.LitSet.insert.Goals as goal

pub returns-then-self-at-ne0 : goal.returns-then-self-at-ne0
returns-then-self-at-ne0 c =
    rw (← c.self.view_is) (sym (inserted_member _ c.args.l.0 (present _ _ c.self.invariant c.args.l.0 c.if-self-at-ne0.true)))

pub push-requires : goal.push-requires
push-requires c = (rw (← c.self.view_is) at c.requires).room (absent _ _ c.self.invariant c.args.l.0 c.if-self-at-ne0.false)

pub invariant_of-self : goal.invariant_of-self
invariant_of-self c =
    subst (λ (r : Row). Rep (set c.self.inside.flags.now c.args.l.0 1) r.items) (sym c.push.ensures)
    (inserted_new _ _ c.self.invariant c.args.l.0 (rw (← c.self.view_is) at c.requires).low)

pub returns : goal.returns
returns c =
    rw (← c.self.view_is)
    (ap (members _) c.push.ensures ∙ sym (inserted_last (members _ _) c.args.l.0 (absent _ _ c.self.invariant c.args.l.0 c.if-self-at-ne0.false)))
