-- 'At most k of these n literals' by Sinz's sequential counter (2005): the clauses in the order of his formula, their cells, and what is turned back.
use Rattle.std.specs.Prelude.{ℕ, zero, suc, ◌+◌, ◌-◌, ◌*◌, Bool, true, false, ◌&&◌, ◌||◌, List, [], ◌∷◌, ◌++◌, length, drop, leb, ltb, eqb}
use Rattle.model.specs.Lit.{var, neg}
use Rattle.model.specs.Limits as Limits
use Rattle.model.specs.Script.{clause_kind, Row, row}
use Rattle.model.specs.Book.{all, any, in_range_of}
use Rattle.model.specs.Run.{Answer, turned_back, ran}

-- the literals of a call are 1 to this
abbrev pub max_count : ℕ
max_count = 64

-- and need no more helpers than this
abbrev pub max_helpers : ℕ
max_helpers = 4096

-- ---- the clauses

-- Column j, from 0, of a row of helpers that begins with variable `base`, as a literal: 'j + 1 or more of the literals so far are true'.
unfoldable pub helper : ℕ → ℕ → ℕ
helper base j = 2 * (base + j)

-- columns j + 1 to j + m of the row that begins at `next`, behind the row at `base`; x is that row's literal
unfoldable pub columns : ℕ → ℕ → ℕ → ℕ → ℕ → List (List ℕ)
columns x base next j zero = []
columns x base next j (suc m) =
    (neg x ∷ neg (helper base j) ∷ helper next (suc j) ∷ [])
    ∷ (neg (helper base (suc j)) ∷ helper next (suc j) ∷ [])
    ∷ columns x base next (suc j) m

-- the two clauses of column j + 1
abbrev pub pair : ℕ → ℕ → ℕ → ℕ → List (List ℕ)
pair x base next j = (neg x ∷ neg (helper base j) ∷ helper next (j + 1) ∷ []) ∷ (neg (helper base (j + 1)) ∷ helper next (j + 1) ∷ []) ∷ []

-- with k of the literals before it true, x is false
unfoldable pub stop : ℕ → ℕ → ℕ → List ℕ
stop k x base = neg x ∷ neg (helper base (k - 1)) ∷ []

-- the row behind the one at `base`, for the literal x
unfoldable pub next_row : ℕ → ℕ → ℕ → List (List ℕ)
next_row k x base =
    (neg x ∷ helper (base + k) 0 ∷ [])
    ∷ (neg (helper base 0) ∷ helper (base + k) 0 ∷ [])
    ∷ (columns x base (base + k) 0 (k - 1) ++ (stop k x base ∷ []))

-- the literals behind those that the row at `base` counts; the last has no row of its own
unfoldable pub rows : ℕ → ℕ → List ℕ → List (List ℕ)
rows k base [] = []
rows k base (x ∷ []) = stop k x base ∷ []
rows k base (x ∷ y ∷ ys) = next_row k x base ++ rows k (base + k) (y ∷ ys)

-- columns j + 1 to j + m of the first row are false
unfoldable pub zeros : ℕ → ℕ → ℕ → List (List ℕ)
zeros base j zero = []
zeros base j (suc m) = (neg (helper base (suc j)) ∷ []) ∷ zeros base (suc j) m

-- Sinz's formula, of two literals or more and k from 1 on: the helpers row by row, from variable `first` on
unfoldable pub counter : ℕ → ℕ → List ℕ → List (List ℕ)
counter k first [] = []
counter k first (x ∷ xs) = (neg x ∷ helper first 0 ∷ []) ∷ (zeros first 0 (k - 1) ++ rows k first xs)

-- the negations as units
unfoldable pub negations : List ℕ → List (List ℕ)
negations [] = []
negations (x ∷ xs) = (neg x ∷ []) ∷ negations xs

-- at most k of the literals
unfoldable pub at_most : ℕ → ℕ → List ℕ → List (List ℕ)
at_most k first ls = elim (eqb k 0) [ true ↦ negations ls | false ↦ elim (ltb k (length ls)) [ true ↦ counter k first ls | false ↦ [] ] ]

-- the helper variables in use
unfoldable pub helpers : ℕ → ℕ → ℕ
helpers k n = elim (ltb k n) [ true ↦ (n - 1) * k | false ↦ 0 ]

-- ---- the cells

-- clauses as records of kind 1
unfoldable pub cells : List (List ℕ) → List ℕ
cells [] = []
cells (c ∷ cs) = clause_kind ∷ length c ∷ (c ++ cells cs)

-- how many they are, of n literals
unfoldable pub needed : ℕ → ℕ → ℕ
needed k n = elim (eqb k 0) [ true ↦ 3 * n | false ↦ elim (ltb k n) [ true ↦ 8 + 3 * (k - 1) + (n - 2) * (9 * k + 3) | false ↦ 0 ] ]

-- 0 for more literals than a call may have
unfoldable pub len_of : ℕ → ℕ → ℕ
len_of n k = elim (leb n max_count) [ true ↦ needed k n | false ↦ 0 ]

-- ---- what is turned back

-- a literal's variable is named among others
unfoldable pub named : ℕ → List ℕ → Bool
named l ls = any (λ m. eqb (var m) (var l)) ls

unfoldable pub distinct : List ℕ → Bool
distinct [] = true
distinct (l ∷ ls) = elim (named l ls) [ true ↦ false | false ↦ distinct ls ]

-- a literal's variable is none of the `used` helpers from `first` on
unfoldable pub apart : ℕ → ℕ → ℕ → Bool
apart first used l = ltb (var l) first || leb (first + used) (var l)

-- the helpers in use, if any, are variables
unfoldable pub helpers_fit : ℕ → ℕ → ℕ → Bool
helpers_fit v first used = eqb used 0 || leb (first + used) v

unfoldable pub at_most_rows : ℕ → List ℕ → ℕ → ℕ → ℕ → List Row
at_most_rows v ls k first room =
    let n = length ls in
    let used = helpers k n in
    let needed = length (cells (at_most k first ls)) in
    row 2 (leb 1 v && leb v Limits.max_variables) 0
    ∷ row 18 (leb 1 n && leb n max_count) 0
    ∷ row 18 (all (in_range_of v) ls) 0
    ∷ row 19 (distinct ls) 0
    ∷ row 19 (all (apart first used) ls) 0
    ∷ row 19 (helpers_fit v first used) 0
    ∷ row 20 (leb needed room) needed
    ∷ []

-- ---- the writer: its answer, and what the lent slice holds afterwards

pub record After : Type 0 where
  pub answer : Answer
  pub out : List ℕ

-- the first row that does not hold refuses
unfoldable pub first_failing : List Row → Answer → Answer
first_failing [] answer = answer
first_failing (row number holds place ∷ rows) answer = elim holds [ true ↦ first_failing rows answer | false ↦ turned_back number place ]

-- A refusal writes nothing. Else out begins with the cells, and the rest is as found.
unfoldable pub after : ℕ → List ℕ → ℕ → ℕ → List ℕ → After
after v ls k first out =
    let written = cells (at_most k first ls) in
    elim (first_failing (at_most_rows v ls k first (length out)) (ran (length written))) [
      | turned_back number place ↦ record { answer = turned_back number place; out = out }
      | ran n ↦ record { answer = ran n; out = written ++ drop (length written) out }
    ]
