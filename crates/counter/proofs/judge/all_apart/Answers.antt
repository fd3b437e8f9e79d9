use Rattle.counter.specs.Counter.{apart}
use mathlib.Core.Path.{◌∙◌}
use borrow.Author.Tests.{tests}
use Rattle.std.proofs.Common.{rules}
use Rattle.std.proofs.lemmas.Iterator.{YieldsList-from_slice}
use Rattle.std.proofs.lemmas.Iterator.Search.{all_from_yields_List}
use Rattle.counter.proofs.JudgeLaws.{apart_is}
use Rattle.counter.proofs.judge.all_apart.Goals as goal

pub returns : goal.returns
returns c =
    let a = c.args in
    all_from_yields_List (apart a.first a.used) _ _ _ c.all.ensures.ran (YieldsList-from_slice a.literals.now cc) (λ x b q k. search (rules, tests)) ∙ apart_is a.first a.used a.literals.now
