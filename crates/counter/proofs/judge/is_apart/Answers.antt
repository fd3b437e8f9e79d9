use mathlib.Core.Path.{◌∙◌}
use borrow.Author.Tests.{lt-ltb}
use native.Mathlib.Omega.{arith}
use Rattle.counter.proofs.JudgeLaws.{apart_before, apart_behind}
use Rattle.counter.proofs.judge.is_apart.Goals as goal

pub returns-then-x-first : goal.returns-then-x-first
returns-then-x-first c =
    let a = c.args in
    lt-ltb _ a.first c.if-x-first.true ∙ apart_before a.first a.used a.l (omega arith)

pub returns-else-x-first : goal.returns-else-x-first
returns-else-x-first c =
    let a = c.args in
    apart_behind a.first a.used a.l (omega arith)
