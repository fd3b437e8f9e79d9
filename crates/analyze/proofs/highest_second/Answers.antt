use Rattle.std.proofs.Common.{◌≤◌, length, arith}
use Rattle.analyze.specs.Second.{place_in, seconded-unit, seconded_swap}
use Rattle.analyze.proofs.highest_second.Goals as goal

pub returns-then-len-lt2 : goal.returns-then-len-lt2
returns-then-len-lt2 c = seconded-unit _ _ (omega arith)

pub at-q-requires : goal.at-q-requires
at-q-requires c =
    let two : 2 ≤ length c.args.buffer.now.items = omega arith in
    omega (arith, c.highest-best.ensures, place_in c.args.trail.now.vars c.args.buffer.now.items two)

pub swap-requires-clause-j_in_bounds : goal.swap-requires-clause-j_in_bounds
swap-requires-clause-j_in_bounds c =
    let two : 2 ≤ length c.args.buffer.now.items = omega arith in
    omega (arith, c.highest-best.ensures, place_in c.args.trail.now.vars c.args.buffer.now.items two)

pub returns : goal.returns
returns c =
    let two : 2 ≤ length c.args.buffer.now.items = omega arith in
    rw (c.swap.ensures, c.level.ensures, c.var.ensures, c.at-q.ensures) (seconded_swap _ _ two c.highest-best.result c.highest-best.ensures)
