-- A script: its header, its records, and the refusals of document 01's table "Turned back, by place".
use Rattle.std.specs.Prelude.{ℕ, zero, suc, ◌+◌, ◌*◌, min, Bool, true, false, ◌&&◌, ◌||◌, List, [], ◌∷◌, ◌++◌, length, get_or, take, drop, leb, ltb, eqb}
use Rattle.model.specs.Limits as Limits
use Rattle.model.specs.Limits.{header_cells}

-- ---- what a script says

-- cells 0 to 5: V, C, L, mode, phase, unit
pub record Config : Type 0 where
  pub variables : ℕ
  pub max_clauses : ℕ
  pub max_literals : ℕ
  pub mode : ℕ
  pub phase : ℕ
  pub unit : ℕ

unfoldable pub header : List ℕ → Config
header s = record
    { variables = get_or s 0 0; max_clauses = get_or s 1 0; max_literals = get_or s 2 0; mode = get_or s 3 0; phase = get_or s 4 0; unit = get_or s 5 0 }

-- a clause: its literals; a solve: its assumptions and its budget of conflicts
pub data Record : Type 0 where
  clause : List ℕ → Record
  solve : List ℕ → ℕ → Record

-- ---- record kinds: a record is its kind, the `lead` cells, a count, that many literals, and the `trailing` cells

abbrev pub clause_kind : ℕ
clause_kind = 1

abbrev pub solve_kind : ℕ
solve_kind = 2

unfoldable pub known : ℕ → Bool
known kind = eqb kind clause_kind || eqb kind solve_kind

-- the cells between kind and count
unfoldable pub lead : ℕ → ℕ
lead kind = 0

-- the largest count, of v variables: all their literals, but for a clause, which has a limit of its own too
unfoldable pub most_count : ℕ → ℕ → ℕ
most_count kind v = elim (eqb kind clause_kind) [ true ↦ min Limits.longest_clause (2 * v) | false ↦ 2 * v ]

-- the largest number that each cell behind the literals may hold: a solve has a budget there
unfoldable pub limits : ℕ → List ℕ
limits kind = elim (eqb kind solve_kind) [ true ↦ Limits.max_budget ∷ [] | false ↦ [] ]

unfoldable pub trailing : ℕ → ℕ
trailing kind = length (limits kind)

-- the out cells that its answer may need, of v variables
unfoldable pub cost : ℕ → ℕ → ℕ
cost kind v = elim (eqb kind solve_kind) [ true ↦ v + Limits.solve_besides | false ↦ 1 ]

-- the record of a kind, by its cells before the count, its literals, and its cells behind them
unfoldable pub record_as : ℕ → List ℕ → List ℕ → List ℕ → Record
record_as kind before literals behind = elim (eqb kind solve_kind) [ true ↦ solve literals (get_or behind 0 0) | false ↦ clause literals ]

unfoldable pub kind_of : Record → ℕ
kind_of (clause literals) = clause_kind
kind_of (solve assumptions budget) = solve_kind

-- ---- the records of a script

-- The records of the cells behind the header. Each takes two cells or more, so as many turns as there are cells are enough.
unfoldable pub records : ℕ → List ℕ → List Record
records zero cells = []
records (suc turns) [] = []
records (suc turns) (kind ∷ rest) =
    let count = get_or rest (lead kind) 0 in
    let body = drop (lead kind + 1) rest in
    let behind = take (trailing kind) (drop count body) in
    record_as kind (take (lead kind) rest) (take count body) behind ∷ records turns (drop (count + trailing kind) body)

unfoldable pub records_of : List ℕ → List Record
records_of s = records (length s) (drop header_cells s)

-- ---- refusals

-- a row of the table: its number, what must hold, and the place given where it does not
pub data Row : Type 0 where
  row : ℕ → Bool → ℕ → Row

unfoldable pub header_rows : ℕ → Config → List Row
header_rows n h =
    row 1 (leb header_cells n) n
    ∷ row 2 (leb 1 h.variables && leb h.variables Limits.max_variables) 0
    ∷ row 3 (leb h.max_clauses Limits.max_clauses) 1
    ∷ row 3 (leb h.max_literals Limits.max_literals) 2
    ∷ row 4 (leb h.mode Limits.max_mode) 3
    ∷ row 4 (leb h.phase Limits.max_phase) 4
    ∷ row 4 (leb 1 h.unit && leb h.unit Limits.max_unit) 5
    ∷ []

unfoldable pub work_needed : Config → ℕ
work_needed h = Limits.work_per_variable * h.variables + Limits.work_per_clause * h.max_clauses + h.max_literals + Limits.work_besides

unfoldable pub slice_rows : Config → ℕ → ℕ → List Row
slice_rows h work activities = row 5 (leb (work_needed h) work) (work_needed h) ∷ row 6 (leb h.variables activities) h.variables ∷ []

-- the literals from the cell `at` on, of v variables
unfoldable pub literal_rows : ℕ → ℕ → List ℕ → List Row
literal_rows v at [] = []
literal_rows v at (l ∷ ls) = row 9 (ltb l (2 * v)) at ∷ literal_rows v (at + 1) ls

-- the cells from the cell `at` on, each with its limit
unfoldable pub limit_rows : ℕ → List ℕ → List ℕ → List Row
limit_rows at [] cells = []
limit_rows at (most ∷ limits) cells = row 11 (leb (get_or cells 0 0) most) at ∷ limit_rows (at + 1) limits (drop 1 cells)

-- the records from the cell `at` on, of a script of n cells
unfoldable pub record_rows : ℕ → ℕ → ℕ → ℕ → List ℕ → List Row
record_rows v n zero at cells = []
record_rows v n (suc turns) at [] = []
record_rows v n (suc turns) at (kind ∷ rest) =
    let count = get_or rest (lead kind) 0 in
    let body = drop (lead kind + 1) rest in
    let first = at + 2 + lead kind in
    let size = count + trailing kind in
    row 7 (known kind) at
    ∷ row 8 (leb (lead kind + 1) (length rest)) n
    ∷ row 10 (leb count (most_count kind v)) (at + 1 + lead kind)
    ∷ row 8 (leb size (length body)) n
    ∷ (literal_rows v first (take count body) ++ limit_rows (first + count) (limits kind) (drop count body)
    ++ record_rows v n turns (first + size) (drop size body))

-- the out cells that the records may need
unfoldable pub out_needed : ℕ → List Record → ℕ
out_needed v [] = 0
out_needed v (r ∷ rs) = cost (kind_of r) v + out_needed v rs

unfoldable pub out_rows : ℕ → ℕ → List Row
out_rows needed out = row 12 (leb needed out) (min needed Limits.max_place) ∷ []

-- ---- the reading of a script

pub data Reading : Type 0 where
  refused : ℕ → ℕ → Reading
  accepted : Config → List Record → Reading

-- the first row that does not hold refuses
unfoldable pub judge : List Row → Reading → Reading
judge [] reading = reading
judge (row number holds place ∷ rows) reading = elim holds [ true ↦ judge rows reading | false ↦ refused number place ]

-- a script with a cell or more, and the lengths of work, activities and out
unfoldable pub read : List ℕ → ℕ → ℕ → ℕ → Reading
read s work activities out =
    let n = length s in
    let h = header s in
    let v = h.variables in
    let rs = records_of s in
    judge
    (header_rows n h ++ slice_rows h work activities ++ record_rows v n n header_cells (drop header_cells s) ++ out_rows (out_needed v rs) out)
    (accepted h rs)
