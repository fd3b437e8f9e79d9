use Rattle.std.proofs.Common.{rules, refl, ap, ◌∙◌, arith, List, ℕ}
use Rattle.text.specs.Answers.{kinds, printed_records}
use Rattle.text.specs.PrintLaws.{from_start, rest_taken, records_step, records_none}
use Rattle.text.specs.Prints.{printing_all, printing_more, printing_done, printed_all}
use Rattle.text.proofs.printing.print.Goals as goal

pub loop-records-init : goal.loop-records-init
loop-records-init c =
    let a = c.args in
    printing_all _ (ap (λ (r : List ℕ). printed_records (kinds 0 r) a.lines.now a.out.now) c.behind-records.ensures ∙ from_start a.script.now a.lines.now a.out.now)

pub loop-records-preserved : goal.loop-records-preserved
loop-records-preserved c =
    printing_more _ c.loop-records.invariant
    (records_step c.loop-records.records.now c.loop-records.lines.now c.loop-records.out.now c.in-len1-up.len_at_least (rest_taken c.loop-records.records.now) (search rules) (search rules) c.cells_behind.ensures c.answer_cells.ensures c.behind-records-in-len1-up.ensures c.behind-lines.ensures c.behind-out.ensures)
    c.record.ensures

pub returns : goal.returns
returns c =
    printed_all _ (printing_done c.loop-records.invariant (records_none _ _ _ (omega (arith, c.in_default.len_below)))) refl c.new-printer.ensures.start c.new-printer.ensures.text (search rules)
