-- The records of a script by the cell at which each begins: what stands there, the rows of the table for it, and where the next one begins.
use Rattle.std.specs.Prelude.{ℕ, zero, suc, ◌+◌, ◌-◌, ◌≤◌, ◌<◌, ◌≡◌, refl, List, [], ◌∷◌, ◌++◌, length, take, leb}
use Rattle.std.proofs.Math.Path.{ap}
use Rattle.std.proofs.Common.{◌∙◌, not-suc-le-zero, length-take, length-drop, drop_of_length-le, drop-cons, get_or-take}
use native.Mathlib.Omega.{arith}
use Rattle.std.proofs.Math.Numerals.{add-one}
use Rattle.std.proofs.Math.Decide.{dec_lt, ℕ_discrete}
use Rattle.std.proofs.Common.{sym, le-leb}
use Rattle.std.proofs.lemmas.Bool.{lt-leb}
use Rattle.std.proofs.Math.ListN.{get_or, drop, get_or-eq_default}
use Rattle.std.proofs.Math.Seq.{drop-drop, get_or-drop}
use Rattle.model.specs.Limits as Limits
use Rattle.model.specs.Script.{Record, clause, solve, solve_kind, known, lead, most_count, limits, trailing, record_as, records, Row, row, literal_rows, limit_rows, record_rows}
use Rattle.script.specs.Kinds.{literals_of, cells_of, limits-solve, limits_other, trailing-solve, trailing_other, record_solve, record_other}

-- ---- the record that begins at a cell

abbrev pub kind_at : List ℕ → ℕ → ℕ
kind_at s at = get_or s at 0

-- the cells between its kind and its count
abbrev pub lead_at : List ℕ → ℕ → List ℕ
lead_at s at = take (lead (kind_at s at)) (drop (at + 1) s)

abbrev pub count_at : List ℕ → ℕ → ℕ
count_at s at = get_or s (at + 1 + lead (kind_at s at)) 0

-- its cells behind the count
abbrev pub size_at : List ℕ → ℕ → ℕ
size_at s at = count_at s at + trailing (kind_at s at)

-- where its literals begin, and the cell behind them
abbrev pub first_at : List ℕ → ℕ → ℕ
first_at s at = at + 2 + lead (kind_at s at)

abbrev pub end_at : List ℕ → ℕ → ℕ
end_at s at = first_at s at + count_at s at

abbrev pub literals_at : List ℕ → ℕ → List ℕ
literals_at s at = take (count_at s at) (drop (first_at s at) s)

abbrev pub behind_at : List ℕ → ℕ → List ℕ
behind_at s at = take (trailing (kind_at s at)) (drop (end_at s at) s)

-- where the next record begins
abbrev pub next_at : List ℕ → ℕ → ℕ
next_at s at = first_at s at + size_at s at

abbrev pub record_at : List ℕ → ℕ → Record
record_at s at = record_as (kind_at s at) (lead_at s at) (literals_at s at) (behind_at s at)

-- the record is whole: neither its count nor what the count asks for runs past the script
pub record RecordAt (s : List ℕ) (at : ℕ) : Type 0 where
  pub head : first_at s at ≤ length s
  pub body : next_at s at ≤ length s

-- the records from a cell on
unfoldable pub records_from : List ℕ → ℕ → List Record
records_from s at = records (length s) (drop at s)

-- ---- the rows of the record that begins at a cell, in the table's order

abbrev pub kind_rows : List ℕ → ℕ → List Row
kind_rows s at =
    row 7 (known (kind_at s at)) at
    ∷ row 8 (leb (lead (kind_at s at) + 1) (length s - (at + 1))) (length s)
    ∷ []

abbrev pub count_rows : ℕ → List ℕ → ℕ → List Row
count_rows v s at =
    row 10 (leb (count_at s at) (most_count (kind_at s at) v)) (at + 1 + lead (kind_at s at))
    ∷ row 8 (leb (size_at s at) (length s - first_at s at)) (length s)
    ∷ []

abbrev pub head_rows : ℕ → List ℕ → ℕ → List Row
head_rows v s at = kind_rows s at ++ count_rows v s at

abbrev pub literals_rows : ℕ → List ℕ → ℕ → List Row
literals_rows v s at = literal_rows v (first_at s at) (literals_at s at)

abbrev pub last_rows : List ℕ → ℕ → List Row
last_rows s at = limit_rows (end_at s at) (limits (kind_at s at)) (drop (end_at s at) s)

abbrev pub body_rows : ℕ → List ℕ → ℕ → List Row
body_rows v s at = literals_rows v s at ++ last_rows s at

abbrev pub rows_at : ℕ → List ℕ → ℕ → List Row
rows_at v s at = head_rows v s at ++ body_rows v s at

unfoldable pub rows_from : ℕ → List ℕ → ℕ → List Row
rows_from v s at = record_rows v (length s) (length s) at (drop at s)

-- ---- as many turns as there are cells are enough, and more give the same

pub records_turns : (t t' : ℕ) (cells : List ℕ) → length cells ≤ t → length cells ≤ t' → records t cells ≡ records t' cells
unfolding records
records_turns zero zero cells h h' = refl
records_turns zero (suc t') [] h h' = refl
records_turns zero (suc t') (kind ∷ rest) h h' = absurd (not-suc-le-zero h)
records_turns (suc t) zero [] h h' = refl
records_turns (suc t) zero (kind ∷ rest) h h' = absurd (not-suc-le-zero h')
records_turns (suc t) (suc t') [] h h' = refl
records_turns (suc t) (suc t') (kind ∷ rest) h h' =
    let next : List ℕ = drop (get_or rest (lead kind) 0 + trailing kind) (drop (lead kind + 1) rest) in
    let shorter : length next ≤ length rest = simp length-drop (omega arith) in
    rw (records_turns t t' next (omega arith) (omega arith))

pub rows_turns : (v n t t' at : ℕ) (cells : List ℕ) → length cells ≤ t → length cells ≤ t' → record_rows v n t at cells ≡ record_rows v n t' at cells
unfolding record_rows
rows_turns v n zero zero at cells h h' = refl
rows_turns v n zero (suc t') at [] h h' = refl
rows_turns v n zero (suc t') at (kind ∷ rest) h h' = absurd (not-suc-le-zero h)
rows_turns v n (suc t) zero at [] h h' = refl
rows_turns v n (suc t) zero at (kind ∷ rest) h h' = absurd (not-suc-le-zero h')
rows_turns v n (suc t) (suc t') at [] h h' = refl
rows_turns v n (suc t) (suc t') at (kind ∷ rest) h h' =
    let size = get_or rest (lead kind) 0 + trailing kind in
    let next : List ℕ = drop size (drop (lead kind + 1) rest) in
    let shorter : length next ≤ length rest = simp length-drop (omega arith) in
    rw (rows_turns v n t t' (at + 2 + lead kind + size) next (omega arith) (omega arith))

-- ---- a turn of the walk

-- the cells of the script from a record's first on, taken apart as the definition does
module _ (s : List ℕ) (at : ℕ) where
  abbrev kind : ℕ
  kind = kind_at s at

  drop_here : at < length s → drop at s ≡ kind ∷ drop (at + 1) s
  drop_here h = rw add-one (drop-cons s at 0 h)

  count_here : get_or (drop (at + 1) s) (lead kind) 0 ≡ count_at s at
  count_here = get_or-drop (at + 1) s (lead kind) 0

  body-index : at + 1 + (lead kind + 1) ≡ first_at s at
  body-index = omega arith

  body_here : drop (lead kind + 1) (drop (at + 1) s) ≡ drop (first_at s at) s
  body_here = drop-drop (lead kind + 1) (at + 1) s ∙ ap (λ (i : ℕ). drop i s) body-index

  next_here : (m : ℕ) → drop m (drop (first_at s at) s) ≡ drop (first_at s at + m) s
  next_here m = drop-drop m (first_at s at) s

records_turn : (s : List ℕ) (at t : ℕ) → at < length s → records (suc t) (drop at s) ≡ record_at s at ∷ records t (drop (next_at s at) s)
unfolding records
records_turn s at t h = rw (drop_here s at h, count_here s at, body_here s at, next_here s at (count_at s at), next_here s at (size_at s at))

pub records_step : (s : List ℕ) (at : ℕ) → at < length s → records_from s at ≡ record_at s at ∷ records_from s (next_at s at)
unfolding records_from
records_step s at h =
    let short : length (drop at s) ≤ length s = simp length-drop (omega arith) in
    records_turns (length s) (suc (length s)) (drop at s) short (omega arith) ∙ records_turn s at (length s) h

pub records_end : (s : List ℕ) (at : ℕ) → length s ≤ at → records_from s at ≡ []
unfolding records_from records
records_end s at h = rw (drop_of_length-le s h) (none (length s))
  where
    none : (t : ℕ) → records t [] ≡ []
    none zero = refl
    none (suc t) = refl

rows_turn : (v n : ℕ) (s : List ℕ) (at t : ℕ) → at < length s → n ≡ length s
    → record_rows v n (suc t) at (drop at s) ≡ rows_at v s at ++ record_rows v n t (next_at s at) (drop (next_at s at) s)
unfolding record_rows
rows_turn v n s at t h e = rw (e, drop_here s at h, count_here s at, body_here s at, next_here s at (count_at s at), next_here s at (size_at s at), length-drop (at + 1) s, length-drop (first_at s at) s)

pub rows_step : (v : ℕ) (s : List ℕ) (at : ℕ) → at < length s → rows_from v s at ≡ rows_at v s at ++ rows_from v s (next_at s at)
unfolding rows_from
rows_step v s at h =
    let short : length (drop at s) ≤ length s = simp length-drop (omega arith) in
    rows_turns v (length s) (length s) (suc (length s)) at (drop at s) short (omega arith) ∙ rows_turn v (length s) s at (length s) h refl

pub rows_end : (v : ℕ) (s : List ℕ) (at : ℕ) → length s ≤ at → rows_from v s at ≡ []
unfolding rows_from record_rows
rows_end v s at h = rw (drop_of_length-le s h) (none (length s) (length s))
  where
    none : (n t : ℕ) → record_rows v n t at [] ≡ []
    none n zero = refl
    none n (suc t) = refl

-- ---- the rows of a record by what the code reads: no kind has a cell before the count

pub first_is : (s : List ℕ) (at : ℕ) → first_at s at ≡ at + 2
unfolding lead
first_is s at = omega arith

same_test : (n at : ℕ) → leb 1 (n - (at + 1)) ≡ leb (at + 2) n
same_test n at = go (dec_lt n (at + 2))
  where
    go : Dec (n < at + 2) → leb 1 (n - (at + 1)) ≡ leb (at + 2) n
    go (yes h) = lt-leb 1 (n - (at + 1)) (omega arith) ∙ sym (lt-leb (at + 2) n h)
    go (no h) = le-leb 1 (n - (at + 1)) (omega arith) ∙ sym (le-leb (at + 2) n (omega arith))

-- the table's tests of places, as the code has them
pub head_is : (v : ℕ) (s : List ℕ) (at : ℕ) → at < length s
    → head_rows v s at
    ≡ row 7 (known (kind_at s at)) at
    ∷ row 8 (leb (at + 2) (length s)) (length s)
    ∷ row 10 (leb (get_or s (at + 1) 0) (most_count (kind_at s at) v)) (at + 1)
    ∷ row 8 (leb (get_or s (at + 1) 0 + trailing (kind_at s at)) (length s - (at + 2))) (length s)
    ∷ []
unfolding lead
head_is v s at h =
    let e : leb 1 (length s - (at + 1)) ≡ leb (at + 2) (length s) = same_test (length s) at in
    let one : at + 1 + 0 ≡ at + 1 = omega arith in
    let two : at + 2 + 0 ≡ at + 2 = omega arith in
    rw (e, one, two)

-- the row of a budget at the cell e
abbrev pub budget_rows : Record → ℕ → List Row
budget_rows (clause literals) e = []
budget_rows (solve assumptions budget) e = row 11 (leb budget Limits.max_budget) e ∷ []

module _ (s : List ℕ) (at : ℕ) where
  pub literals-record : literals_of (record_at s at) ≡ literals_at s at
  literals-record = go (ℕ_discrete (kind_at s at) solve_kind)
    where
      go : Dec (kind_at s at ≡ solve_kind) → literals_of (record_at s at) ≡ literals_at s at
      go (yes e) = ap literals_of (record_solve (kind_at s at) e (lead_at s at) (literals_at s at) (behind_at s at))
      go (no n) = ap literals_of (record_other (kind_at s at) n (lead_at s at) (literals_at s at) (behind_at s at))

  pub last_is : last_rows s at ≡ budget_rows (record_at s at) (end_at s at)
  unfolding limit_rows
  last_is = go (ℕ_discrete (kind_at s at) solve_kind)
    where
      go : Dec (kind_at s at ≡ solve_kind) → last_rows s at ≡ budget_rows (record_at s at) (end_at s at)
      go (yes h) =
          let cell : get_or (drop (end_at s at) s) 0 0 ≡ get_or (behind_at s at) 0 0 =
          sym (get_or-take (trailing (kind_at s at)) (drop (end_at s at) s) 0 0 (omega (arith, trailing-solve (kind_at s at) h))) in
          ap (λ (most : List ℕ). limit_rows (end_at s at) most (drop (end_at s at) s)) (limits-solve (kind_at s at) h)
          ∙ ap (λ (b : ℕ). row 11 (leb b Limits.max_budget) (end_at s at) ∷ []) cell
          ∙ sym (ap (λ (r : Record). budget_rows r (end_at s at)) (record_solve (kind_at s at) h (lead_at s at) (literals_at s at) (behind_at s at)))
      go (no h) =
          ap (λ (most : List ℕ). limit_rows (end_at s at) most (drop (end_at s at) s)) (limits_other (kind_at s at) h)
          ∙ sym (ap (λ (r : Record). budget_rows r (end_at s at)) (record_other (kind_at s at) h (lead_at s at) (literals_at s at) (behind_at s at)))

  all_literals : RecordAt s at → length (literals_at s at) ≡ count_at s at
  all_literals r = omega (arith, length-take (count_at s at) (drop (first_at s at) s), length-drop (first_at s at) s, r.body)

  pub end-literals : RecordAt s at → at + 2 + length (literals_at s at) ≡ end_at s at
  end-literals r = omega (arith, all_literals r, first_is s at)

  -- a record that is all there takes the cells up to the next one
  pub cells-record : RecordAt s at → at + cells_of (record_at s at) ≡ next_at s at
  cells-record r = go (ℕ_discrete (kind_at s at) solve_kind)
    where
      all : length (literals_at s at) ≡ count_at s at
      all = all_literals r

      go : Dec (kind_at s at ≡ solve_kind) → at + cells_of (record_at s at) ≡ next_at s at
      go (yes e) =
          let c = ap cells_of (record_solve (kind_at s at) e (lead_at s at) (literals_at s at) (behind_at s at)) in
          omega (arith, c, all, trailing-solve (kind_at s at) e, first_is s at)
      go (no n) =
          let c = ap cells_of (record_other (kind_at s at) n (lead_at s at) (literals_at s at) (behind_at s at)) in
          omega (arith, c, all, trailing_other (kind_at s at) n, first_is s at)

-- a cell behind the literals; there is no other
module _ (s : List ℕ) (at : ℕ) where
  pub behind_cell : (i : ℕ) → i < trailing (kind_at s at) → get_or (behind_at s at) i 0 ≡ get_or s (end_at s at + i) 0
  behind_cell i h = get_or-take (trailing (kind_at s at)) (drop (end_at s at) s) i 0 h ∙ get_or-drop (end_at s at) s i 0

  pub behind_none : (i : ℕ) → trailing (kind_at s at) ≤ i → get_or (behind_at s at) i 0 ≡ 0
  behind_none i h = get_or-eq_default (behind_at s at) 0 (omega (arith, length-take (trailing (kind_at s at)) (drop (end_at s at) s)))

-- ---- the record as the code reads it

module _ (s : List ℕ) (at : ℕ) where
  count_is : count_at s at ≡ get_or s (at + 1) 0
  unfolding lead
  count_is = let place : at + 1 + 0 ≡ at + 1 = omega arith in ap (λ (i : ℕ). get_or s i 0) place

  pub whole_read : RecordAt s at → at + 2 + get_or s (at + 1) 0 + trailing (kind_at s at) ≤ length s
  whole_read r = omega (arith, r.body, first_is s at, count_is)

  end_is : at + 2 + get_or s (at + 1) 0 ≡ end_at s at
  end_is = omega (arith, first_is s at, count_is)

  literals_read : take (at + 2 + get_or s (at + 1) 0 - (at + 2)) (drop (at + 2) s) ≡ literals_at s at
  literals_read =
      let size : at + 2 + get_or s (at + 1) 0 - (at + 2) ≡ count_at s at = omega (arith, count_is) in
      ap (λ (n : ℕ). take n (drop (at + 2) s)) size ∙ ap (λ (f : ℕ). take (count_at s at) (drop f s)) (sym (first_is s at))

  pub solve_read : kind_at s at ≡ solve_kind
      → solve (take (at + 2 + get_or s (at + 1) 0 - (at + 2)) (drop (at + 2) s)) (get_or s (at + 2 + get_or s (at + 1) 0) 0) ≡ record_at s at
  solve_read e =
      let cell : get_or s (at + 2 + get_or s (at + 1) 0) 0 ≡ get_or (behind_at s at) 0 0 =
      ap (λ (i : ℕ). get_or s i 0) (omega (arith, end_is)) ∙ sym (behind_cell s at 0 (omega (arith, trailing-solve (kind_at s at) e))) in
      ap (λ (ls : List ℕ). solve ls (get_or s (at + 2 + get_or s (at + 1) 0) 0)) literals_read
      ∙ ap (λ (b : ℕ). solve (literals_at s at) b) cell
      ∙ sym (record_solve (kind_at s at) e (lead_at s at) (literals_at s at) (behind_at s at))

  pub clause_read : (kind_at s at ≡ solve_kind → ⊥) → clause (take (at + 2 + get_or s (at + 1) 0 - (at + 2)) (drop (at + 2) s)) ≡ record_at s at
  clause_read n = ap clause literals_read ∙ sym (record_other (kind_at s at) n (lead_at s at) (literals_at s at) (behind_at s at))

-- ---- what holds at the end, and before each record where it holds behind it, holds at every cell

pub walk_induction : (P : ℕ → Type 0) (s : List ℕ) → ((at : ℕ) → length s ≤ at → P at) → ((at : ℕ) → at < length s → P (next_at s at) → P at) → (at : ℕ) → P at
walk_induction P s base step at = go (length s) at (omega arith)
  where
    turn : (at : ℕ) → (at < length s → P (next_at s at)) → Dec (at < length s) → P at
    turn at r (yes h) = step at h (r h)
    turn at r (no h) = base at (omega arith)

    go : (left at : ℕ) → length s ≤ left + at → P at
    go zero at h = base at (omega arith)
    go (suc left) at h = turn at (λ l. go left (next_at s at) (omega arith)) (dec_lt at (length s))
