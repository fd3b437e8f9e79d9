use Rattle.std.proofs.Common.{rules, ap, ◌∙◌, ◌≡◌, ℕ, get_or, take, drop}
use Rattle.text.specs.Kinds.{verdict_of}
use Rattle.text.specs.PrintLaws.{solve_printed, take_clipped}
use Rattle.text.specs.Prints.{prints_more, prints_as}
use Rattle.text.proofs.printer.Printer.solve.Goals as goal

pub returns : goal.returns
returns c =
    let o = c.args.out.now in
    let a : c.from_cell-verdict.result ≡ verdict_of (get_or o 0 0) = search rules in
    let n : c.from.result ≡ get_or o 1 0 = search rules in
    let m : c.unwrap_or-count.result ≡ get_or o 2 0 = search rules in
    let xs : take c.min-n.result c.behind-cells.result.now ≡ take (get_or o 2 0) (drop 3 o) =
    ap (λ (k : ℕ). take k c.behind-cells.result.now) c.min-n.ensures ∙ take_clipped c.unwrap_or-count.result c.behind-cells.result.now
    ∙ ap (λ (k : ℕ). take k c.behind-cells.result.now) m ∙ ap (take (get_or o 2 0)) c.behind-cells.ensures in
    prints_as _ (solve_printed o c.from_cell-verdict.result c.from.result _ a n xs) (prints_more (prints_more c.verdict.ensures c.numbered.ensures) c.body.ensures)
