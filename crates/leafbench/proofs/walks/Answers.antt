use Rattle.std.proofs.Common.{arith, ◌≤◌}
use native.Mathlib.Nat.{mul-le-mul}
use Rattle.watch.specs.View.{list_of}
use Rattle.leafbench.specs.Results.{hits}
use Rattle.leafbench.specs.Loops.{hits-bound}
use Rattle.leafbench.proofs.walks.Goals as goal

pub overflow_add-k : goal.overflow_add-k
overflow_add-k c =
    let s = c.args.t.now in
    let xs = list_of s.watches c.args.l.0 in
    let v = c.loop in
    let most : hits s xs ≤ 32 = omega (arith, hits-bound s xs, c.requires.1) in
    let turns : v.counter ≤ 4294967295 = omega (arith, v.invariant.0, c.ranges.n.fits) in
    omega (arith, c.walk-k.ensures, most, v.invariant.1, mul-le-mul turns most)
