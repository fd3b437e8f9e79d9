use Rattle.std.proofs.Common.{arith, rules, ◌≡◌, get_or, ap}
use Rattle.script.specs.declared.Kind.{Kind}
use Rattle.model.specs.Script.{limits, trailing}
use Rattle.script.specs.Kinds.{cell_of}
use Rattle.text.proofs.printing.cells_behind.Goals as goal

pub returns-in-Clause : goal.returns-in-Clause
unfolding trailing limits
returns-in-Clause c =
    let n : c.unwrap_or-count.result ≡ get_or c.args.tail.now 0 0 = search rules in
    let t : trailing (cell_of c.args.kind) ≡ 0 = ap (λ (k : Kind). trailing (cell_of k)) c.in-Clause.is in
    omega arith

pub returns-in-Solve : goal.returns-in-Solve
unfolding trailing limits
returns-in-Solve c =
    let n : c.unwrap_or-count.result ≡ get_or c.args.tail.now 0 0 = search rules in
    let t : trailing (cell_of c.args.kind) ≡ 1 = ap (λ (k : Kind). trailing (cell_of k)) c.in-Solve.is in
    omega arith
