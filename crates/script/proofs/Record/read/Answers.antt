use Rattle.std.proofs.Common.{arith}
use Rattle.script.specs.Kinds.{trailing-solve}
use Rattle.script.specs.Walk.{kind_at, whole_read, solve_read, clause_read}
use Rattle.script.proofs.Record.read.Goals as goal

pub slice_bounds-literals-end : goal.slice_bounds-literals-end
slice_bounds-literals-end c = omega (arith, whole_read c.args.script.now c.args.at c.requires)

pub bounds-script-end : goal.bounds-script-end
bounds-script-end c =
    omega (arith, whole_read c.args.script.now c.args.at c.requires, trailing-solve (kind_at c.args.script.now c.args.at) c.if-script-at.true)

pub returns-then-script-at : goal.returns-then-script-at
returns-then-script-at c = solve_read c.args.script.now c.args.at c.if-script-at.true

pub returns : goal.returns
returns c = clause_read c.args.script.now c.args.at c.if-script-at.false
