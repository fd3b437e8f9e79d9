use Rattle.std.proofs.Common.{rules, ap, sym, ◌∙◌, ◌≡◌, Some, get_or}
use Rattle.cells.specs.declared.Verdict.TheVariants.{Undef}
use Rattle.text.specs.Kinds.{cell_of}
use Rattle.text.specs.Answers.{numbered}
use Rattle.text.specs.PrintLaws.{body_cause, body-listed, cell_other}
use Rattle.text.specs.Prints.{prints_more, prints_as}
use Rattle.text.proofs.printer.Printer.body.Goals as goal

pub returns-then-eq : goal.returns-then-eq
returns-then-eq c =
    let n : c.from.result ≡ get_or c.args.cells.now 0 0 = search rules in
    let v : c.args.verdict ≡ Some Undef = search rules in
    prints_as _ (ap (numbered _) n ∙ sym (body_cause (cell_of c.args.verdict) c.args.cells.now (ap cell_of v))) c.numbered.ensures

pub returns : goal.returns
returns c =
    let v : c.args.verdict ≡ Some Undef → ⊥ = search rules in
    prints_as _ (sym (body-listed (cell_of c.args.verdict) c.args.cells.now (cell_other c.args.verdict v)))
    (prints_more (prints_more c.body_key.ensures c.items.ensures) c.byte.ensures)
