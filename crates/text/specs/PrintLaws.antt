-- The definitions of Answers by their cases, as the code meets them.
use Rattle.std.specs.Prelude.{ℕ, zero, suc, ◌+◌, ◌-◌, ◌*◌, ◌/◌, ◌%◌, ◌≤◌, ◌<◌, min, ◌≡◌, refl, true, false, Option, None, Some, Result, Ok, Err, List, [], ◌∷◌, ◌++◌, length, get_or, take, drop}
use Rattle.std.proofs.Common.{sym, ap, ◌∙◌, arith, add-one, length-drop, drop_of_length-le, drop-cons, take_all, eq-eqb, ne_eqb}
use Rattle.std.proofs.Math.Decide.{dec_lt}
use Rattle.model.specs.Limits.{header_cells}
use Rattle.model.specs.Script.{solve_kind, known, limits, trailing}
use Rattle.text.specs.Bytes.{bytes}
use Rattle.text.specs.Number.{shown, shown_literal}
use Rattle.text.specs.Answers.{
  numbered,
  item,
  spaced,
  listed,
  verdict,
  body_key,
  body,
  printed_solve,
  printed_clause,
  printed_record,
  answer_cells,
  kinds,
  printed_records,
  printed,
}
use Rattle.script.specs.declared.Kind.{Kind}
use Rattle.cells.specs.declared.Verdict.{Verdict}
use Rattle.cells.specs.declared.Verdict.TheVariants.{True, False, Undef}
use Rattle.script.specs.declared.Kind.TheVariants.{Clause, Solve}
use Rattle.script.specs.Kinds.{IsKindOf, cell_of as kind_cell}
use Rattle.refusal.specs.declared.Rule.{Rule}
use Rattle.std.specs.Result.{result_unwrap_or}
use Rattle.text.specs.Kinds.{kind_of, verdict_of, cell_of}

-- ---- a literal

pub literal_even : (l : ℕ) → l % 2 ≡ 0 → shown_literal l ≡ shown (l / 2 + 1)
unfolding shown_literal
literal_even l h = rw (eq-eqb (l % 2) 0 h, shown_literal)

pub literal_odd : (l : ℕ) → (l % 2 ≡ 0 → ⊥) → shown_literal l ≡ 45 ∷ shown (l / 2 + 1)
unfolding shown_literal
literal_odd l h = rw (ne_eqb (l % 2) 0 h, shown_literal)

pub item_true : (answer i x : ℕ) → answer ≡ 0 → x ≡ 0 → item answer i x ≡ 2 * i
unfolding item
item_true answer i x e f = rw (item, eq-eqb answer 0 e, eq-eqb x 0 f)

pub item_false : (answer i x : ℕ) → answer ≡ 0 → (x ≡ 0 → ⊥) → item answer i x ≡ 2 * i + 1
unfolding item
item_false answer i x e f = rw (item, eq-eqb answer 0 e, ne_eqb x 0 f)

pub item_other : (answer i x : ℕ) → (answer ≡ 0 → ⊥) → item answer i x ≡ x
unfolding item
item_other answer i x e = rw (item, ne_eqb answer 0 e)

pub spaced_first : (i : ℕ) (word : List ℕ) → i ≡ 0 → spaced i word ≡ word
unfolding spaced
spaced_first i word e = rw (spaced, eq-eqb i 0 e)

pub spaced_later : (i : ℕ) (word : List ℕ) → (i ≡ 0 → ⊥) → spaced i word ≡ 32 ∷ word
unfolding spaced
spaced_later i word e = rw (spaced, ne_eqb i 0 e)

pub listed_turn : (answer i : ℕ) (xs : List ℕ) → i < length xs
    → listed answer i (drop i xs) ≡ spaced i (shown_literal (item answer i (get_or xs i 0))) ++ listed answer (i + 1) (drop (i + 1) xs)
unfolding listed
listed_turn answer i xs h = rw (drop-cons xs i 0 h) (ap (λ (k : ℕ). spaced i (shown_literal (item answer i (get_or xs i 0))) ++ listed answer (i + 1) (drop k xs)) (sym (add-one i)))

pub listed_end : (answer i : ℕ) (xs : List ℕ) → length xs ≤ i → listed answer i (drop i xs) ≡ []
unfolding listed
listed_end answer i xs h = rw (drop_of_length-le xs h)

-- ---- a solve

pub verdict_true : (answer : ℕ) → answer ≡ 0 → verdict answer ≡ bytes "answer=TRUE\n"
unfolding verdict
verdict_true answer e = rw (verdict, eq-eqb answer 0 e)

pub verdict_false : (answer : ℕ) → answer ≡ 1 → verdict answer ≡ bytes "answer=FALSE\n"
unfolding verdict
verdict_false answer e = rw (verdict, ne_eqb answer 0 (omega arith), eq-eqb answer 1 e)

pub verdict_undef : (answer : ℕ) → (answer ≡ 0 → ⊥) → (answer ≡ 1 → ⊥) → verdict answer ≡ bytes "answer=UNDEF\n"
unfolding verdict
verdict_undef answer e f = rw (verdict, ne_eqb answer 0 e, ne_eqb answer 1 f)

pub key_model : (answer : ℕ) → answer ≡ 0 → body_key answer ≡ bytes "model="
unfolding body_key
key_model answer e = rw (body_key, eq-eqb answer 0 e)

pub key_final : (answer : ℕ) → (answer ≡ 0 → ⊥) → body_key answer ≡ bytes "final="
unfolding body_key
key_final answer e = rw (body_key, ne_eqb answer 0 e)

pub body_cause : (answer : ℕ) (xs : List ℕ) → answer ≡ 2 → body answer xs ≡ numbered (bytes "cause=") (get_or xs 0 0)
unfolding body
body_cause answer xs e = rw (body, eq-eqb answer 2 e)

pub body-listed : (answer : ℕ) (xs : List ℕ) → (answer ≡ 2 → ⊥) → body answer xs ≡ body_key answer ++ listed answer 0 xs ++ 10 ∷ []
unfolding body
body-listed answer xs e = rw (body, ne_eqb answer 2 e)

-- the first n cells, as far as there are
pub take_clipped : (n : ℕ) (l : List ℕ) → take (min (length l) n) l ≡ take n l
take_clipped n l = go (dec_lt n (length l))
  where
    go : Dec (n < length l) → take (min (length l) n) l ≡ take n l
    go (yes h) = let e : min (length l) n ≡ n = omega arith in rw e
    go (no h) = take_all (min (length l) n) l (omega arith) ∙ sym (take_all n l (omega arith))

pub verdict_other : (v : Option Verdict) → (v ≡ Some True → ⊥) → (v ≡ Some False → ⊥) → verdict (cell_of v) ≡ bytes "answer=UNDEF\n"
unfolding verdict
verdict_other (Some True) e f = absurd (e refl)
verdict_other (Some False) e f = absurd (f refl)
verdict_other (Some Undef) e f = refl
verdict_other None e f = refl

pub cell_other : (v : Option Verdict) → (v ≡ Some Undef → ⊥) → cell_of v ≡ 2 → ⊥
cell_other (Some True) e f = omega (arith, f)
cell_other (Some False) e f = omega (arith, f)
cell_other (Some Undef) e f = e refl
cell_other None e f = omega (arith, f)

-- a cell stands for the same whether it is 3 or another number above
pub verdict_cell : (a : ℕ) → verdict (cell_of (verdict_of a)) ≡ verdict a
unfolding verdict
verdict_cell zero = refl
verdict_cell (suc zero) = refl
verdict_cell (suc (suc zero)) = refl
verdict_cell (suc (suc (suc a))) = sym (verdict_undef (suc (suc (suc a))) (omega arith) (omega arith))

listed_cell : (a i : ℕ) (xs : List ℕ) → listed 3 i xs ≡ listed (suc (suc (suc a))) i xs
unfolding listed
listed_cell a i [] = refl
listed_cell a i (x ∷ xs) =
    ap (λ (l : List ℕ). spaced i (shown_literal (item 3 i x)) ++ l) (listed_cell a (i + 1) xs)
    ∙ ap (λ (k : ℕ). spaced i (shown_literal k) ++ listed (suc (suc (suc a))) (i + 1) xs) (item_other 3 i x (omega arith) ∙ sym (item_other (suc (suc (suc a))) i x (omega arith)))

pub body_cell : (a : ℕ) (xs : List ℕ) → body (cell_of (verdict_of a)) xs ≡ body a xs
unfolding body body_key
body_cell zero xs = refl
body_cell (suc zero) xs = refl
body_cell (suc (suc zero)) xs = refl
body_cell (suc (suc (suc a))) xs =
    body-listed 3 xs (omega arith) ∙ ap (λ (l : List ℕ). body_key 3 ++ l ++ 10 ∷ []) (listed_cell a 0 xs)
    ∙ ap (λ (l : List ℕ). l ++ listed (suc (suc (suc a))) 0 xs ++ 10 ∷ []) (key_final 3 (omega arith) ∙ sym (key_final (suc (suc (suc a))) (omega arith)))
    ∙ sym (body-listed (suc (suc (suc a))) xs (omega arith))

pub solve_printed : (o : List ℕ) (v : Option Verdict) (n : ℕ) (xs : List ℕ) → v ≡ verdict_of (get_or o 0 0) → n ≡ get_or o 1 0 → xs ≡ take (get_or o 2 0) (drop 3 o)
    → verdict (cell_of v) ++ numbered (bytes "conflicts=") n ++ body (cell_of v) xs ≡ printed_solve o
unfolding printed_solve
solve_printed o v n xs e f g = rw (e, f, g, verdict_cell (get_or o 0 0), body_cell (get_or o 0 0) (take (get_or o 2 0) (drop 3 o)))

-- ---- a record

pub clause_untaken : (line answer : ℕ) → answer ≡ 2 → printed_clause line answer ≡ numbered (bytes "untaken=") line
unfolding printed_clause
clause_untaken line answer e = rw (printed_clause, eq-eqb answer 2 e)

pub clause_silent : (line answer : ℕ) → (answer ≡ 2 → ⊥) → printed_clause line answer ≡ []
unfolding printed_clause
clause_silent line answer e = rw (printed_clause, ne_eqb answer 2 e)

pub record_solve : (kind line : ℕ) (out : List ℕ) → kind ≡ solve_kind → printed_record kind line out ≡ printed_solve out
unfolding printed_record
record_solve kind line out e = rw (printed_record, eq-eqb kind solve_kind e)

pub record_clause : (kind line : ℕ) (out : List ℕ) → (kind ≡ solve_kind → ⊥) → printed_record kind line out ≡ printed_clause line (get_or out 0 0)
unfolding printed_record
record_clause kind line out e = rw (printed_record, ne_eqb kind solve_kind e)

pub cells-solve : (kind : ℕ) (out : List ℕ) → kind ≡ solve_kind → answer_cells kind out ≡ 3 + get_or out 2 0
unfolding answer_cells
cells-solve kind out e = rw (answer_cells, eq-eqb kind solve_kind e)

pub cells-clause : (kind : ℕ) (out : List ℕ) → (kind ≡ solve_kind → ⊥) → answer_cells kind out ≡ 1
unfolding answer_cells
cells-clause kind out e = rw (answer_cells, ne_eqb kind solve_kind e)

pub trailing-solve : (kind : ℕ) → kind ≡ solve_kind → trailing kind ≡ 1
unfolding trailing limits
trailing-solve kind e = rw e

pub trailing-clause : (kind : ℕ) → (kind ≡ solve_kind → ⊥) → trailing kind ≡ 0
unfolding trailing limits
trailing-clause kind e = rw (ne_eqb kind solve_kind e, limits)

-- the kind of a number, and a clause where it is no kind's
pub kind_read : (k : ℕ) (r : Result Kind Rule) → IsKindOf k r → result_unwrap_or r Clause ≡ kind_of k
unfolding known
kind_read k (Ok Clause) e = rw (← e)
kind_read k (Ok Solve) e = rw (← e)
kind_read zero (Err rule) e = refl
kind_read (suc zero) (Err rule) e = refl
kind_read (suc (suc zero)) (Err rule) e = let z : true ≡ false = e.1 in cc
kind_read (suc (suc (suc k))) (Err rule) e = refl

-- a number means the same as that of the kind that it stands for

pub record_kind : (k line : ℕ) (out : List ℕ) → printed_record (kind_cell (kind_of k)) line out ≡ printed_record k line out
unfolding printed_record
record_kind zero line out = refl
record_kind (suc zero) line out = refl
record_kind (suc (suc zero)) line out = refl
record_kind (suc (suc (suc k))) line out = record_clause 1 line out (omega arith) ∙ sym (record_clause (suc (suc (suc k))) line out (omega arith))

pub cells_kind : (k : ℕ) (out : List ℕ) → answer_cells (kind_cell (kind_of k)) out ≡ answer_cells k out
unfolding answer_cells
cells_kind zero out = refl
cells_kind (suc zero) out = refl
cells_kind (suc (suc zero)) out = refl
cells_kind (suc (suc (suc k))) out = cells-clause 1 out (omega arith) ∙ sym (cells-clause (suc (suc (suc k))) out (omega arith))

trailing_kind : (k : ℕ) → trailing (kind_cell (kind_of k)) ≡ trailing k
unfolding trailing limits
trailing_kind zero = refl
trailing_kind (suc zero) = refl
trailing_kind (suc (suc zero)) = refl
trailing_kind (suc (suc (suc k))) = trailing-clause 1 (omega arith) ∙ sym (trailing-clause (suc (suc (suc k))) (omega arith))

-- ---- all records

kinds_skip : (skip : ℕ) (l : List ℕ) → kinds skip l ≡ kinds 0 (drop skip l)
unfolding kinds
kinds_skip zero l = refl
kinds_skip (suc skip) [] = refl
kinds_skip (suc skip) (x ∷ xs) = kinds_skip skip xs

pub records_none : (records lines out : List ℕ) → length records ≡ 0 → printed_records (kinds 0 records) lines out ≡ []
unfolding kinds printed_records
records_none [] lines out e = refl
records_none (x ∷ xs) lines out e = absurd (omega (arith, e))

pub records_more : (k : ℕ) (tail lines out : List ℕ) (line n m : ℕ) → line ≡ get_or lines 0 0 → n ≡ 1 + get_or tail 0 0 + trailing (kind_cell (kind_of k))
    → m ≡ answer_cells (kind_cell (kind_of k)) out
    → printed_records (kinds 0 (k ∷ tail)) lines out
    ≡ printed_record (kind_cell (kind_of k)) line out ++ printed_records (kinds 0 (drop n tail)) (drop 1 lines) (drop m out)
unfolding kinds printed_records
records_more k tail lines out line n m e f g =
    let n' : suc (get_or tail 0 0 + trailing k) ≡ n = omega (arith, trailing_kind k) in
    ap (λ (ks : List ℕ). printed_record k (get_or lines 0 0) out ++ printed_records ks (drop 1 lines) (drop (answer_cells k out) out))
    (kinds_skip (suc (get_or tail 0 0 + trailing k)) tail ∙ ap (λ (i : ℕ). kinds 0 (drop i tail)) n')
    ∙ ap (λ (i : ℕ). printed_record k (get_or lines 0 0) out ++ printed_records (kinds 0 (drop n tail)) (drop 1 lines) (drop i out)) (sym (g ∙ cells_kind k out))
    ∙ ap (λ (l : List ℕ). l ++ printed_records (kinds 0 (drop n tail)) (drop 1 lines) (drop m out)) (sym (record_kind k line out ∙ ap (λ (i : ℕ). printed_record k i out) e))

pub rest_taken : (xs : List ℕ) → take (length xs - 1) (drop 1 xs) ≡ drop 1 xs
rest_taken xs = take_all (length xs - 1) (drop 1 xs) (omega (arith, length-drop 1 xs))

-- the same, where the records that are left are named
pub records_step : (records lines out : List ℕ) {tail records' lines' out' : List ℕ} {kind : Kind} {line n m : ℕ} → 1 ≤ length records → tail ≡ drop 1 records
    → kind ≡ kind_of (get_or records 0 0) → line ≡ get_or lines 0 0 → n ≡ 1 + get_or tail 0 0 + trailing (kind_cell kind) → m ≡ answer_cells (kind_cell kind) out
    → records' ≡ drop n tail → lines' ≡ drop 1 lines → out' ≡ drop m out
    → printed_records (kinds 0 records) lines out ≡ printed_record (kind_cell kind) line out ++ printed_records (kinds 0 records') lines' out'
records_step [] lines out h a b c d e f g i = absurd (omega arith)
records_step (k ∷ ks) lines out {line = line} {n = n} {m = m} h a b c d e f g i =
    rw (f, g, i, a, b) (records_more k ks lines out line n m c (rw (a, b) at d) (rw b at e))

pub from_start : (script lines out : List ℕ) → printed_records (kinds 0 (drop header_cells script)) lines out ≡ printed script lines out
unfolding printed
from_start script lines out = ap (λ (ks : List ℕ). printed_records ks lines out) (sym (kinds_skip header_cells script))
