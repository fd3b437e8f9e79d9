use Prim.Native.Nat.{◌/◌}
use mathlib.Core.Path.{◌∙◌}
use borrow.Author.Tests.{tests}
use Rattle.std.proofs.Common.{rules, nat_lt}
use Rattle.std.proofs.lemmas.Iterator.{YieldsList-from_slice}
use Rattle.std.proofs.lemmas.Iterator.Search.{all_from_yields_List}
use Rattle.counter.proofs.JudgeLaws.{in_range_is}
use Rattle.counter.proofs.judge.in_range.Goals as goal

pub returns : goal.returns
returns c =
    let a = c.args in
    all_from_yields_List (λ l. nat_lt (l / 2) a.v) _ _ _ c.all.ensures.ran (YieldsList-from_slice a.literals.now cc) (λ x b q k. search (rules, tests)) ∙ in_range_is a.v a.literals.now
