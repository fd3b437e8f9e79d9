use Rattle.std.proofs.Common.{rules, ◌∙◌}
use Rattle.std.proofs.lemmas.Iterator.{YieldsList-from_slice}
use Rattle.std.proofs.lemmas.Iterator.Adapters.{YieldsList-from_skip}
use Rattle.std.proofs.lemmas.Iterator.Consumers.{YieldsList-from_enumerate}
use Rattle.std.proofs.lemmas.Iterator.Search.{all_from_yields_List}
use borrow.Author.Tests.{tests}
use Rattle.replay.specs.Cells.{noise}
use Rattle.replay.specs.CellLaws.{placed}
use Rattle.replay.proofs.is_noise.Goals as goal

pub returns : goal.returns
returns g c =
    all_from_yields_List (λ p. g.T.Cell.like p.1 (g.T.Cell.of (noise p.0))) _ _ c.all.result c.all.ensures.ran
    (YieldsList-from_skip c.args.n (YieldsList-from_enumerate (YieldsList-from_slice c.args.s.now (cc)) (cc)) (cc)) (λ x b q k. search (rules, tests))
    ∙ placed g.T.Cell.like (λ i. g.T.Cell.of (noise i)) c.args.n 0 c.args.s.now
