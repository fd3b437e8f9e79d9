-- What `loadsat` prints.
use Rattle.std.specs.Prelude.{ℕ, zero, suc, ◌+◌, ◌*◌, true, false, List, [], ◌∷◌, ◌++◌, get_or, take, drop, eqb}
use Rattle.model.specs.Limits.{header_cells}
use Rattle.model.specs.Script.{solve_kind, trailing}
use Rattle.text.specs.Bytes.{bytes, blank, newline}
use Rattle.text.specs.Number.{shown, shown_literal}

-- a key and a number on a line
unfoldable pub numbered : List ℕ → ℕ → List ℕ
numbered key n = key ++ shown n ++ newline ∷ []

unfoldable pub printed_refusal : ℕ → ℕ → List ℕ
printed_refusal number place = numbered (bytes "refused=") number ++ numbered (bytes "place=") place

-- ---- a solve

-- the literal that a cell of a body stands for: of a model it is the value of variable i, of a final clause the literal
unfoldable pub item : ℕ → ℕ → ℕ → ℕ
item answer i a = elim (eqb answer 0) [
  | true ↦ elim (eqb a 0) [ true ↦ 2 * i | false ↦ 2 * i + 1 ]
  | false ↦ a
]

-- with a blank in front of all but the first
unfoldable pub spaced : ℕ → List ℕ → List ℕ
spaced i word = elim (eqb i 0) [ true ↦ word | false ↦ blank ∷ word ]

-- the literals of a body's cells, from the i-th on
unfoldable pub listed : ℕ → ℕ → List ℕ → List ℕ
listed answer i [] = []
listed answer i (x ∷ xs) = spaced i (shown_literal (item answer i x)) ++ listed answer (i + 1) xs

unfoldable pub verdict : ℕ → List ℕ
verdict answer = elim (eqb answer 0) [
  | true ↦ bytes "answer=TRUE\n"
  | false ↦ elim (eqb answer 1) [ true ↦ bytes "answer=FALSE\n" | false ↦ bytes "answer=UNDEF\n" ]
]

unfoldable pub body_key : ℕ → List ℕ
body_key answer = elim (eqb answer 0) [ true ↦ bytes "model=" | false ↦ bytes "final=" ]

-- the model, the final clause, or the cause
unfoldable pub body : ℕ → List ℕ → List ℕ
body answer xs = elim (eqb answer 2) [
  | true ↦ numbered (bytes "cause=") (get_or xs 0 0)
  | false ↦ body_key answer ++ listed answer 0 xs ++ newline ∷ []
]

-- a solve's cells: the answer, the conflicts, a count, and that many cells
unfoldable pub printed_solve : List ℕ → List ℕ
printed_solve out = verdict (get_or out 0 0) ++ numbered (bytes "conflicts=") (get_or out 1 0) ++ body (get_or out 0 0) (take (get_or out 2 0) (drop 3 out))

-- ---- a clause: nothing, unless it was answered 2

unfoldable pub printed_clause : ℕ → ℕ → List ℕ
printed_clause line answer = elim (eqb answer 2) [ true ↦ numbered (bytes "untaken=") line | false ↦ [] ]

-- ---- all records

-- a record, by its kind, its line and what out holds from its answer on
unfoldable pub printed_record : ℕ → ℕ → List ℕ → List ℕ
printed_record kind line out = elim (eqb kind solve_kind) [ true ↦ printed_solve out | false ↦ printed_clause line (get_or out 0 0) ]

-- the out cells of a record's answer
unfoldable pub answer_cells : ℕ → List ℕ → ℕ
answer_cells kind out = elim (eqb kind solve_kind) [ true ↦ 3 + get_or out 2 0 | false ↦ 1 ]

-- the first cells of the records that stand behind `skip` cells
unfoldable pub kinds : ℕ → List ℕ → List ℕ
kinds skip [] = []
kinds zero (kind ∷ rest) = kind ∷ kinds (suc (get_or rest 0 0 + trailing kind)) rest
kinds (suc skip) (a ∷ rest) = kinds skip rest

-- records of these kinds, the line of each, and what out holds of them
unfoldable pub printed_records : List ℕ → List ℕ → List ℕ → List ℕ
printed_records [] lines out = []
printed_records (kind ∷ ks) lines out =
    printed_record kind (get_or lines 0 0) out ++ printed_records ks (drop 1 lines) (drop (answer_cells kind out) out)

-- a script, the line of each of its records, and the answers
unfoldable pub printed : List ℕ → List ℕ → List ℕ → List ℕ
printed script lines out = printed_records (kinds header_cells script) lines out
