use Rattle.std.proofs.Common.{◌≡◌, rules, arith, ◌∙◌, ap, length, ℕ, List}
use Rattle.text.specs.Limits.{max_cells}
use Rattle.text.specs.Format.{record_lines}
use Rattle.text.specs.Answers.{printed}
use Rattle.text.specs.PrintBound.{printed-length, lines_small}
use Rattle.loadsat.specs.Laws.{small, whole}
use Rattle.loadsat.proofs.print.Goals as goal

pub returns : goal.returns
returns c =
    let n : length c.filled-lines.result ≡ max_cells = search rules in
    let e : c.number_lines.new.lines ≡ record_lines max_cells = c.number_lines.ensures ∙ ap record_lines n in
    let fits = printed-length c.args.script.now (record_lines max_cells) c.args.out.now (lines_small max_cells (omega arith)) (small c.args.out.now (search rules)) c.requires.0 c.requires.1 in
    whole _ c.requires.2 c.print.ensures (rw e fits) (ap (λ (ls : List ℕ). printed c.args.script.now ls c.args.out.now) e)
