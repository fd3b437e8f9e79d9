use Rattle.std.proofs.Common.{◌≡◌, ◌∙◌, refl}
use denote.Enum.Declared.{tag_of}
use Rattle.intake.specs.declared.Answer.{Answer}
use Rattle.intake.specs.contracts.Answer.{the_type}
use Rattle.intake.specs.Taking.{answer_of}
use Rattle.answer.specs.Cells.{put_first}
use Rattle.answer.specs.Solving.{clause-answered}
use Rattle.answer.proofs.clause.Goals as goal

-- an answer's place in the list is its cell
tagged : (a : Answer) → tag_of the_type a ≡ answer_of a
tagged Answer.NoModel = refl
tagged Answer.Taken = refl
tagged Answer.NoStorage = refl

pub returns : goal.returns
returns c =
    clause-answered c.args.x.now c.requires.between c.requires.limited c.args.part.now c.requires.assumable c.add_clause.ensures.has c.add_clause.ensures.config
    (tagged c.add_clause.result ∙ c.add_clause.ensures.answer) (put_first c.args.out.now _ c.requires.room)
