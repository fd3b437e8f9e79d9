use Prim.Native.Nat.{◌/◌}
use mathlib.Core.Path.{◌∙◌}
use borrow.Author.Tests.{tests}
use Rattle.std.proofs.Common.{rules, nat_eq}
use Rattle.std.proofs.lemmas.Iterator.{YieldsList-from_slice}
use Rattle.std.proofs.lemmas.Iterator.Search.{any_from_yields_List}
use Rattle.counter.proofs.JudgeLaws.{named_is}
use Rattle.counter.proofs.judge.is_named.Goals as goal

pub returns : goal.returns
returns c =
    let a = c.args in
    any_from_yields_List (λ m. nat_eq (m / 2) (a.l / 2)) _ _ _ c.any.ensures.ran (YieldsList-from_slice a.literals.now cc) (λ x b q k. search (rules, tests)) ∙ named_is a.l a.literals.now
