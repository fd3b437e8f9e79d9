use Rattle.std.proofs.Common.{ap, sym, ◌∙◌, [], ◌∷◌}
use Rattle.text.specs.Number.{decimal, signed}
use Rattle.text.specs.NumberLaws.{literal-minus, literal_plain}
use Rattle.text.specs.SplitLaws.{stripped_none, stripped_some}
use Rattle.text.proofs.number.Variables.literal.Goals as goal

pub returns-in-Some : goal.returns-in-Some
returns-in-Some c =
    let w = c.args.word.now in
    let s = stripped_some (45 ∷ []) w c.strip_prefix.result _ c.strip_prefix.ensures.cases c.in-Some.is in
    c.signed.ensures ∙ ap (signed c.args.self.count 1) (c.decimal.ensures ∙ ap decimal s.1) ∙ sym (literal-minus c.args.self.count w s.0)

pub returns-in-None : goal.returns-in-None
returns-in-None c =
    let w = c.args.word.now in
    c.signed-in-None.ensures ∙ ap (signed c.args.self.count 0) c.decimal-in-None.ensures
    ∙ sym (literal_plain c.args.self.count w (stripped_none (45 ∷ []) w c.strip_prefix.result c.strip_prefix.ensures.cases c.in-None.is))
