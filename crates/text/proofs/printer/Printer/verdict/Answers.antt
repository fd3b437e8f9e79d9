use Rattle.std.proofs.Common.{◌≡◌, rules, sym, ap, Some}
use Rattle.std.specs.Prelude.{Option}
use Rattle.cells.specs.declared.Verdict.{Verdict}
use Rattle.cells.specs.declared.Verdict.TheVariants.{True, False}
use Rattle.text.specs.Kinds.{cell_of}
use Rattle.text.specs.Answers.{verdict}
use Rattle.text.specs.PrintLaws.{verdict_other}
use Rattle.text.specs.Prints.{prints_as}
use Rattle.text.proofs.printer.Printer.verdict.Goals as goal

pub returns-in-Some-True : goal.returns-in-Some-True
unfolding verdict
returns-in-Some-True c =
    let v : c.args.answer ≡ Some True = search rules in
    prints_as _ (sym (ap (λ (v : Option Verdict). verdict (cell_of v)) v)) c.bytes.ensures

pub returns-in-Some-False : goal.returns-in-Some-False
unfolding verdict
returns-in-Some-False c =
    let v : c.args.answer ≡ Some False = search rules in
    prints_as _ (sym (ap (λ (v : Option Verdict). verdict (cell_of v)) v)) c.bytes-in-Some-False.ensures

pub returns-in_default : goal.returns-in_default
returns-in_default c =
    let t : c.args.answer ≡ Some True → ⊥ = search rules in
    let f : c.args.answer ≡ Some False → ⊥ = search rules in
    prints_as _ (sym (verdict_other c.args.answer t f)) c.bytes-in_default.ensures
