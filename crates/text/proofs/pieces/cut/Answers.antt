use Rattle.std.proofs.Common.{rules, tests, eqb, Some, None}
use Rattle.std.proofs.lemmas.Iterator.{YieldsList-from_slice}
use Rattle.std.proofs.lemmas.Iterator.Search.{position_from_yields_List}
use Rattle.text.specs.SplitLaws.{before_at, before_none}
use Rattle.text.proofs.pieces.cut.Goals as goal

pub returns-in-Some-clause-first : goal.returns-in-Some-clause-first
returns-in-Some-clause-first c =
    before_at c.args.sought c.args.s.now c.in-Some.i
    (position_from_yields_List (λ b. eqb b c.args.sought) _ _ (Some c.in-Some.i) c.in-Some.ensures.ran (YieldsList-from_slice c.args.s.now cc) (λ x b q k. search (rules, tests)))

pub returns-in-None-clause-first : goal.returns-in-None-clause-first
returns-in-None-clause-first c =
    before_none c.args.sought c.args.s.now
    (position_from_yields_List (λ b. eqb b c.args.sought) _ _ None c.in-None.ensures.ran (YieldsList-from_slice c.args.s.now cc) (λ x b q k. search (rules, tests)))
