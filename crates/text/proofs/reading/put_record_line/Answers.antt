use Rattle.std.proofs.Common.{◌≡◌, rules, ap, sym, ◌∙◌, Err, None, Some, List, ℕ, drop, []}
use Rattle.refusal.specs.declared.Rule.TheVariants.{BadKey, BadNumber}
use Rattle.text.specs.Bytes.{bytes}
use Rattle.text.specs.Split.{words}
use Rattle.text.specs.Format.{record_of, literals, clause_words, clause_cells, solve_cells}
use Rattle.text.specs.SplitLaws.{stripped_none, stripped_some, words_cut, words_of}
use Rattle.text.specs.Pieces.{words_left}
use Rattle.text.specs.PutLaws.{puts_wrong, puts_as, record_clause, record_solve, record_neither, solve_bad, solve_good}
use Rattle.text.proofs.reading.put_record_line.Goals as goal

pub returns-in-Some : goal.returns-in-Some
unfolding clause_cells
returns-in-Some c =
    let v = c.args.vars.count in
    let l = c.args.line.now in
    let s = stripped_some (bytes "clause=") l c.strip_prefix.result c.in-Some.body c.strip_prefix.ensures.cases c.in-Some.is in
    let w : words_left c.clause_words.result ≡ clause_words (drop 7 l) = c.clause_words.ensures ∙ ap clause_words s.1 in
    puts_as _ (record_clause v l s.0 ∙ sym (ap (λ (ws : List (List ℕ)). record_of 1 [] (literals v ws)) w)) c.put_record.ensures

pub returns-in_err-body : goal.returns-in_err-body
returns-in_err-body c =
    let l = c.args.line.now in
    let r : c.from_residual.result ≡ Err BadKey = search rules in
    let n : c.strip_prefix-2.result ≡ None = search rules in
    let a = stripped_none (bytes "clause=") l c.strip_prefix.result c.strip_prefix.ensures.cases c.in_default.is in
    let b = stripped_none (bytes "solve=") l c.strip_prefix-2.result c.strip_prefix-2.ensures.cases n in
    rw r (puts_wrong (record_neither c.args.vars.count l a b))

pub returns-in_err-budget : goal.returns-in_err-budget
returns-in_err-budget c =
    let v = c.args.vars.count in
    let l = c.args.line.now in
    let r : c.from_residual-in_err-budget.result ≡ Err BadNumber = search rules in
    let n : c.strip_prefix-2.result ≡ Some c.in_ok-body.body = search rules in
    let d : c.decimal.result ≡ None = search rules in
    let a = stripped_none (bytes "clause=") l c.strip_prefix.result c.strip_prefix.ensures.cases c.in_default.is in
    let s = stripped_some (bytes "solve=") l c.strip_prefix-2.result c.in_ok-body.body c.strip_prefix-2.ensures.cases n in
    let w = words_cut c.in_ok-body.body.now c.cut.result.0.now c.cut.result.1 c.cut.ensures.first c.cut.ensures.rest in
    rw r
    (puts_wrong
    (record_solve v l a s.0 ∙ ap (solve_cells v) (sym (ap words s.1) ∙ w) ∙ solve_bad v c.cut.result.0.now (words_of c.cut.result.1) (sym c.decimal.ensures ∙ d)))

pub returns : goal.returns
returns c =
    let v = c.args.vars.count in
    let l = c.args.line.now in
    let n : c.strip_prefix-2.result ≡ Some c.in_ok-body.body = search rules in
    let d : c.decimal.result ≡ Some c.in_ok-budget.budget = search rules in
    let a = stripped_none (bytes "clause=") l c.strip_prefix.result c.strip_prefix.ensures.cases c.in_default.is in
    let s = stripped_some (bytes "solve=") l c.strip_prefix-2.result c.in_ok-body.body c.strip_prefix-2.ensures.cases n in
    let w = words_cut c.in_ok-body.body.now c.cut.result.0.now c.cut.result.1 c.cut.ensures.first c.cut.ensures.rest in
    puts_as _
    (record_solve v l a s.0 ∙ ap (solve_cells v) (sym (ap words s.1) ∙ w)
    ∙ solve_good v c.cut.result.0.now (words_of c.cut.result.1) c.in_ok-budget.budget (sym c.decimal.ensures ∙ d))
    c.put_record-2.ensures
