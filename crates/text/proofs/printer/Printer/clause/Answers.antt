use Rattle.std.proofs.Common.{◌≡◌, rules, sym, ap, ◌∙◌, get_or}
use Rattle.text.specs.Answers.{numbered}
use Rattle.text.specs.PrintLaws.{clause_untaken, clause_silent}
use Rattle.text.specs.Prints.{prints_none, prints_as}
use Rattle.text.proofs.printer.Printer.clause.Goals as goal

pub returns-then-eq : goal.returns-then-eq
returns-then-eq c =
    let e : get_or c.args.out.now 0 0 ≡ 2 = search rules in
    prints_as _ (ap (numbered _) c.from.ensures ∙ sym (clause_untaken c.args.line _ e)) c.numbered.ensures

pub returns-else-eq : goal.returns-else-eq
returns-else-eq c =
    let e : get_or c.args.out.now 0 0 ≡ 2 → ⊥ = search rules in
    prints_as _ (sym (clause_silent c.args.line _ e)) (prints_none _)
