use Rattle.std.proofs.Common.{arith, ◌≤◌, ◌≡◌}
use native.Mathlib.Nat.{mul-le-mul}
use Rattle.leafbench.specs.Results.{put_on}
use Rattle.leafbench.specs.Loops.{put_bound}
use Rattle.leafbench.proofs.turns.Goals as goal

pub overflow_add-put : goal.overflow_add-put
overflow_add-put c =
    let v = c.loop in
    let n = c.args.t.now.config.vars in
    let turns : v.counter ≤ 4294967295 = omega (arith, v.invariant.0, c.ranges.n.fits) in
    let most = put_bound n c.args.order.now c.requires.order in
    let one : c.turn.result ≡ put_on n 0 c.args.order.now = rw v.invariant.2 at c.turn.ensures.value in
    omega (arith, one, most, v.invariant.3, mul-le-mul turns most)
