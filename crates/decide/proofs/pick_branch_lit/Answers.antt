use Rattle.std.proofs.Common.{◌+◌, ◌*◌, arith, sym, ap, ◌∙◌}
use Rattle.std.specs.Prelude.{Some as some}
use Rattle.activity.specs.Leading.{var_of}
use Rattle.decide.specs.Deciding.{picks_none, picked_low, picked_fits, picks_some, phase_low}
use Rattle.decide.proofs.pick_branch_lit.Goals as goal

pub returns-in_err-v : goal.returns-in_err-v
returns-in_err-v c =
    rw c.from_residual.ensures (picks_none c.requires.still c.args.act.now.activities (sym (ap var_of c.in_err-v.was) ∙ (rw c.values.ensures at c.pick.ensures)))

pub phase-requires : goal.phase-requires
phase-requires c = picked_low c.requires.still c.args.act.now.activities (sym (ap var_of c.in_ok-v.was) ∙ (rw c.values.ensures at c.pick.ensures))

pub new-requires : goal.new-requires
new-requires c =
    let e = sym (ap var_of c.in_ok-v.was) ∙ (rw c.values.ensures at c.pick.ensures) in
    (picked_fits c.requires.still c.args.act.now.activities e, omega (arith, phase_low c.requires.still c.args.act.now.activities e, c.phase.ensures))

pub returns : goal.returns
returns c =
    let e = sym (ap var_of c.in_ok-v.was) ∙ (rw c.values.ensures at c.pick.ensures) in
    ap some (c.new.ensures ∙ ap (λ y. 2 * c.in_ok-v.v.0 + y) c.phase.ensures) ∙ picks_some c.requires.still c.args.act.now.activities e
