use Rattle.std.proofs.Common.{arith, ap, sym, ◌∙◌, ◌≤◌, ◌*◌, length, take, length-take}
use Rattle.state.specs.declared.Config.{Config}
use Rattle.leafbench.specs.Loops.{sized_row_begun, lined_filled, lined_length, config_filled, hits-filled, long_enough}
use Rattle.leafbench.proofs.leaf_watch.Goals as goal

pub clauses-requires-clause-row : goal.clauses-requires-clause-row
clauses-requires-clause-row c = sized_row_begun c.begin-t.ensures (omega arith)

pub walks-k-requires : goal.walks-k-requires
walks-k-requires c =
    let ps = take 64 c.args.order.now in
    let k = c.begin-t.ensures in
    (omega (arith, ap (λ (g : Config). g.vars) (config_filled ps k c.clauses.ensures.0 c.fill.ensures)), omega (arith, lined_length 32 (lined_filled ps k c.clauses.ensures.0 c.fill.ensures)))

pub returns-clause-value : goal.returns-clause-value
returns-clause-value c =
    let m = length c.args.work.now in
    let n = length c.args.order.now in
    let ps = take 64 c.args.order.now in
    let most : length ps ≤ 64 = rw length-take (omega arith) in
    let e = hits-filled ps c.begin-t.ensures c.clauses.ensures.0 c.fill.ensures (omega arith) most in
    c.walks-k.ensures ∙ ap (λ k. c.args.n * k) e ∙ sym (long_enough m n _ _ (omega (arith, c.if-work-lt2114.false)) (omega (arith, c.if-order-lt64.false)))
