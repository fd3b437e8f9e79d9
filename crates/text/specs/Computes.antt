-- The definitions opened, so that examples compute.
use Rattle.std.specs.Prelude.{ℕ, List}
use Rattle.text.specs.Limits.{max_cells}
use Rattle.model.specs.Script.{limits, trailing}
use Rattle.text.specs.Split.{push, pieces, starts}
use Rattle.text.specs.Number.{digit, digits, decimal, signed, literal, digits_of, shown, shown_literal}
use Rattle.text.specs.Number as Number
use Rattle.text.specs.Format.{
  one_more,
  literals,
  record_of,
  clause_words,
  clause_cells,
  solve_cells,
  value_cells,
  with_sizes,
  record_cells,
  line_cells,
  fitting,
  Reading,
  read_lines,
  read_text,
}
use Rattle.text.specs.Answers.{
  numbered,
  printed_refusal,
  item,
  spaced,
  listed,
  verdict,
  body_key,
  body,
  printed_solve,
  printed_clause,
  printed_record,
  answer_cells,
  kinds,
  printed_records,
  printed,
}

-- what a text is read as
unfoldable pub read : List ℕ → Reading
unfolding push pieces starts Number.fitting digit digits decimal signed literal one_more literals record_of clause_words clause_cells solve_cells value_cells with_sizes record_cells line_cells fitting read_lines read_text
read text = read_text max_cells text

-- what is printed of a script
unfoldable pub print : List ℕ → List ℕ → List ℕ → List ℕ
unfolding digits_of shown shown_literal numbered printed_refusal item spaced listed verdict body_key body printed_solve printed_clause printed_record answer_cells limits trailing kinds printed_records printed
print s lines out = printed s lines out
