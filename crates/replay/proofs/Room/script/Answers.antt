use Rattle.std.proofs.Common.{ap, ◌∙◌, arith}
use Rattle.replay.specs.Lines.{Lengths, one, line_holds}
use Rattle.replay.specs.LineLaws.{one_held, one_failed, lengths_are}
use Rattle.replay.proofs.Room.script.Goals as goal

pub returns-then-line_holds-clause-tally : goal.returns-then-line_holds-clause-tally
returns-then-line_holds-clause-tally g c =
    one_held c.line_holds.result _ c.line_holds.ensures c.if-line_holds.true ∙ ap (λ (r : Lengths). one (line_holds r c.args.line.now)) c.self.view_is

pub returns-then-line_holds-clause-room : goal.returns-then-line_holds-clause-room
returns-then-line_holds-clause-room g c = lengths_are _ _ _ _ _ (omega arith) (omega arith) (omega arith) (omega arith) ∙ c.self.view_is

pub returns-clause-tally : goal.returns-clause-tally
returns-clause-tally g c =
    one_failed c.line_holds.result _ c.line_holds.ensures c.if-line_holds.false ∙ ap (λ (r : Lengths). one (line_holds r c.args.line.now)) c.self.view_is

pub returns-clause-room : goal.returns-clause-room
returns-clause-room g c = lengths_are _ _ _ _ _ (omega arith) (omega arith) (omega arith) (omega arith) ∙ c.self.view_is
