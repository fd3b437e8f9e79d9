use Rattle.std.proofs.Common.{◌≡◌, sym, ap, ◌∙◌, arith, ℕ, ◌+◌, ◌%◌, [], ◌∷◌}
use Rattle.text.specs.WriteLaws.{shown_one, shown_more}
use Rattle.text.specs.Prints.{prints_more, prints_as, prints_from}
use Rattle.text.proofs.printer.Printer.+number.Goals as goal
use Rattle.text.proofs.printer.Printer.+number.Goals.{then-n-ge10, else-n-ge10}

pub returns : goal.returns
returns t c = elim c.if-n-ge10.branch [
  | then-n-ge10 w ↦ prints_as _ (sym (shown_more c.args.n (omega arith))) (prints_more w.number.ensures (prints_from w.self-is c.byte.ensures))
  | else-n-ge10 w ↦
      let e : c.args.n % 10 ≡ c.args.n = omega arith in
      prints_as _ (ap (λ (k : ℕ). (48 + k) ∷ []) e ∙ sym (shown_one c.args.n (omega arith))) (prints_from w.self-is c.byte.ensures)
]
