use Rattle.std.proofs.Common.{◌∙◌, ℕ, ◌/◌, nat_eq, not, rules}
use borrow.Author.Tests.{tests}
use Rattle.std.proofs.lemmas.Iterator.{YieldsList-from_slice, YieldsList-from_zip}
use Rattle.std.proofs.lemmas.Iterator.Adapters.{YieldsList-from_skip}
use Rattle.std.proofs.lemmas.Iterator.Search.{all_from_yields_List}
use Rattle.smallbooks.proofs.Pick.{apart_beside}
use Rattle.smallbooks.proofs.apart.Goals as goal

pub returns : goal.returns
returns c = let s = c.args.clause.now in
    all_from_yields_List (λ (p : ℕ × ℕ). not (nat_eq (p.0 / 2) (p.1 / 2))) c.all.new.self _ _ c.all.ensures.ran
    (YieldsList-from_zip (YieldsList-from_slice s cc) (YieldsList-from_skip 1 (YieldsList-from_slice s cc) cc)) (λ x b q k. search (rules, tests))
    ∙ apart_beside s
