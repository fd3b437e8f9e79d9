use Rattle.std.proofs.Common.{arith, refl, sym, ◌∙◌}
use Rattle.minimise.specs.Pushing.{pushing_start, pushing_end, pushing_pass, pushing_room, pushing_stop, pushing_put}
use Rattle.minimise.proofs.push_reason.Goals as goal
use Rattle.minimise.proofs.push_reason.Goals.{then-is_open+else-not-can_trace, else-is_open}

pub loop-x-init : goal.loop-x-init
loop-x-init c = pushing_start c.requires

pub returns-then-not-can_trace : goal.returns-then-not-can_trace
returns-then-not-can_trace c =
    pushing_stop c.requires c.loop-x.invariant (omega arith) refl (sym c.is_open.ensures ∙ c.if-is_open.true) (sym c.can_trace.ensures ∙ c.if-not-can_trace.true)

pub put-requires : goal.put-requires
put-requires c = pushing_room c.requires c.loop-x.invariant (omega arith) refl (sym c.is_open.ensures ∙ c.if-is_open.true)

pub loop-x-preserved : goal.loop-x-preserved
loop-x-preserved c =
    elim c.if-is_open.branch [
      | then-is_open+else-not-can_trace w ↦
          rw (w.scratch-is, w.put.ensures)
          (pushing_put c.requires c.loop-x.invariant (omega arith) refl (sym c.is_open.ensures ∙ w.if-is_open.true) (sym w.can_trace.ensures ∙ w.if-not-can_trace.false))
      | else-is_open w ↦ rw w.scratch-is (pushing_pass c.requires c.loop-x.invariant (omega arith) refl (sym c.is_open.ensures ∙ w.if-is_open.false))
    ]

pub returns : goal.returns
returns c = pushing_end c.requires c.loop-x.invariant (omega arith)
