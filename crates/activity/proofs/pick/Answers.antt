use native.Mathlib.Omega.{arith}
use mathlib.Core.Path.{refl, sym, ◌∙◌}
use Rattle.std.specs.Prelude.{Some as some}
use Rattle.activity.specs.Leading.{none_unset, from_first}
use Rattle.activity.specs.Pick.{pick_more, pick_last}
use Rattle.activity.proofs.pick.Goals as goal

pub returns-in_err-first : goal.returns-in_err-first
returns-in_err-first c = rw c.from_residual.ensures (none_unset _ _ (sym c.in_err-first.ensures))

pub loop-i-init : goal.loop-i-init
loop-i-init c =
    let f = from_first c.args.act.now c.args.values.now _ (sym c.in_ok-first.ensures) in
    record { in_range = omega arith; leads = record { var = f.0; top = refl }; same = f.1 }

pub loop-i-preserved : goal.loop-i-preserved
loop-i-preserved c =
    let l = c.loop-i in
    let e = c.better-b.ensures in
    record { in_range = omega arith; leads = e.leads_2; same = pick_more _ _ _ _ l.i (omega arith) e.var_value ∙ l.invariant.same }

pub returns : goal.returns
returns c =
    let l = c.loop-i in
    sym (pick_last _ _ (some l.b.var.0) l.i (omega arith)) ∙ l.invariant.same
