-- The books of one variable and the most of two, run by the definitions.
use Rattle.std.specs.Prelude.{◌≡◌, refl, List, ℕ}
use Rattle.model.specs.Exec.{out_of}
use Rattle.text.specs.Bytes.{bytes}
use Rattle.text.specs.Number.{digits_of, shown}
use Rattle.text.specs.Answers.{numbered, verdict}
use Rattle.smallbooks.specs.Choose.{combinations, of_sizes}
use Rattle.smallbooks.specs.Books.{upward, literals, apart, filter, clauses, sets, header, record_of, records_of, solve_record, script, found, fresh, solved, printed, all_printed, greatest, first, printed_most, printed_book, book}

-- `book`, unfolded
writes : ℕ → List ℕ
unfolding out_of digits_of shown numbered verdict combinations of_sizes upward literals apart filter clauses sets header record_of records_of solve_record script found fresh solved printed all_printed greatest first printed_most printed_book book
writes v = book v

-- no clause, one, the other, and both of a variable: none is searched
one : writes 1 ≡ bytes "answer=TRUE\nconflicts=0\nanswer=TRUE\nconflicts=0\nanswer=TRUE\nconflicts=0\nanswer=FALSE\nconflicts=0\nmost=0 1\n"
unfolding writes
one = refl
