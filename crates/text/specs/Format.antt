-- The format of `loadsat`: what a text is read as.
--
--     text   = vars mode phase unit { clause | solve }          each on a line of its own
--     vars   = "vars=" number        mode = "mode=" number      phase = "phase=" number      unit = "unit=" number
--     clause = "clause=" [ literal { blank literal } ]
--     solve  = "solve=" number { blank literal }
use Rattle.std.specs.Prelude.{ℕ, zero, suc, ◌+◌, ◌-◌, Bool, true, false, None, Some, List, [], ◌∷◌, ◌++◌, length, get_or, drop, eqb, leb, ltb}
use Rattle.model.specs.Script.{clause_kind, solve_kind}
use Rattle.refusal.specs.declared.Rule.{Rule}
use Rattle.refusal.specs.declared.Rule.TheVariants.{BadKey, BadNumber, LongText}
use Rattle.text.specs.Limits as Limits
use Rattle.text.specs.Limits.{max_bytes, max_vars, first_record}
use Rattle.text.specs.Bytes.{bytes}
use Rattle.text.specs.Split.{lines, words, starts}
use Rattle.text.specs.Number.{decimal, literal}

-- ---- a line

-- the cells that a line stands for, or the rule that it breaks
pub data Cells : Type 0 where
  wrong : Rule → Cells
  cells : List ℕ → Cells

unfoldable pub one_more : ℕ → Cells → Cells
one_more x (wrong rule) = wrong rule
one_more x (cells xs) = cells (x ∷ xs)

-- words that are literals of v variables
unfoldable pub literals : ℕ → List (List ℕ) → Cells
literals v [] = cells []
literals v (w ∷ ws) = elim (literal v w) [ None ↦ wrong BadNumber | Some l ↦ one_more l (literals v ws) ]

-- a record: its kind, how many literals, the literals, and what stands behind them
unfoldable pub record_of : ℕ → List ℕ → Cells → Cells
record_of kind more (wrong rule) = wrong rule
record_of kind more (cells ls) = cells (kind ∷ length ls ∷ ls ++ more)

-- the words behind `clause=`; none if the line ends there
unfoldable pub clause_words : List ℕ → List (List ℕ)
clause_words [] = []
clause_words (b ∷ bs) = words (b ∷ bs)

unfoldable pub clause_cells : ℕ → List ℕ → Cells
clause_cells v body = record_of clause_kind [] (literals v (clause_words body))

-- the words behind `solve=`: the budget, then the assumptions
unfoldable pub solve_cells : ℕ → List (List ℕ) → Cells
solve_cells v [] = wrong BadNumber
solve_cells v (w ∷ ws) = elim (decimal w) [ None ↦ wrong BadNumber | Some budget ↦ record_of solve_kind (budget ∷ []) (literals v ws) ]

-- a line of the header is its key and one number
unfoldable pub value_cells : List ℕ → List ℕ → Cells
value_cells key line = elim (starts key line) [
  | false ↦ wrong BadKey
  | true ↦ elim (decimal (drop (length key) line)) [ None ↦ wrong BadNumber | Some n ↦ cells (n ∷ []) ]
]

-- V, with C and L, which the text does not have
unfoldable pub with_sizes : Cells → Cells
with_sizes (wrong rule) = wrong rule
with_sizes (cells xs) = elim (leb (get_or xs 0 0) max_vars) [ true ↦ cells (xs ++ Limits.clauses ∷ Limits.literals ∷ []) | false ↦ wrong LongText ]

unfoldable pub record_cells : ℕ → List ℕ → Cells
record_cells v line = elim (starts (bytes "clause=") line) [
  | true ↦ clause_cells v (drop 7 line)
  | false ↦ elim (starts (bytes "solve=") line) [ true ↦ solve_cells v (words (drop 6 line)) | false ↦ wrong BadKey ]
]

abbrev pub pick : Bool → Cells → Cells → Cells
pick true a b = a
pick false a b = b

-- line n, from 1, where V is v
unfoldable pub line_cells : ℕ → ℕ → List ℕ → Cells
line_cells n v line =
    pick (eqb n 1) (with_sizes (value_cells (bytes "vars=") line))
    (pick (eqb n 2) (value_cells (bytes "mode=") line)
    (pick (eqb n 3) (value_cells (bytes "phase=") line)
    (pick (eqb n 4) (value_cells (bytes "unit=") line)
    (record_cells v line))))

-- where `used` cells stand already, of `room`
unfoldable pub fitting : ℕ → ℕ → Cells → Cells
fitting room used (wrong rule) = wrong rule
fitting room used (cells xs) = elim (leb (used + length xs) room) [ true ↦ cells xs | false ↦ wrong LongText ]

-- ---- a text

-- refused: the rule, the place, and the cells of the lines before that place
-- script: the cells, and how many records they hold; record i, from 0, stands on line first_record + i
pub data Reading : Type 0 where
  refused : Rule → ℕ → List ℕ → Reading
  script : List ℕ → ℕ → Reading

-- the lines from line n on, behind the cells so far, whose first is V
unfoldable pub read_lines : ℕ → ℕ → List ℕ → List (List ℕ) → Reading
read_lines room n before [] = elim (ltb n first_record) [ true ↦ refused BadKey n before | false ↦ script before (n - first_record) ]
read_lines room n before (l ∷ ls) = elim (fitting room (length before) (line_cells n (get_or before 0 0) l)) [
  | wrong rule ↦ refused rule n before
  | cells xs ↦ read_lines room (n + 1) (before ++ xs) ls
]

-- a text, read into a script of at most `room` cells
unfoldable pub read_text : ℕ → List ℕ → Reading
read_text room text = elim (leb (length text) max_bytes) [ true ↦ read_lines room 1 [] (lines text) | false ↦ refused LongText 0 [] ]

-- the lines of n records, from a line on
unfoldable pub lines_from : ℕ → ℕ → List ℕ
lines_from line zero = []
lines_from line (suc n) = line ∷ lines_from (line + 1) n

-- the line of each of n records
abbrev pub record_lines : ℕ → List ℕ
record_lines n = lines_from first_record n
