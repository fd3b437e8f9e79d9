-- A refusal's number is never 0.
use Rattle.std.specs.Prelude.{ℕ, zero, suc, ◌+◌, ◌≤◌, ◌≡◌, true, false, List, [], ◌∷◌, ◌++◌, length, get_or, take, drop}
use Rattle.std.proofs.Common.{arith, ap}
use Rattle.model.specs.Limits.{header_cells}
use Rattle.model.specs.Script.{Config, Record, Row, row, Reading, refused, accepted, lead, limits, trailing, header, records_of, header_rows, slice_rows, literal_rows, limit_rows, record_rows, out_needed, out_rows, judge, read}

-- every row has a number
abbrev Numbered : List Row → Type 0
Numbered [] = Unit {0}
Numbered (row number b place ∷ rows) = (1 ≤ number) × Numbered rows

numbered-append : (xs ys : List Row) → Numbered xs → Numbered ys → Numbered (xs ++ ys)
numbered-append [] ys h g = g
numbered-append (row number b place ∷ xs) ys h g = (h.0, numbered-append xs ys h.1 g)

number_in : Reading → ℕ
number_in (refused number place) = number
number_in (accepted cfg rs) = 0

judge-numbered : (rows : List Row) → Numbered rows → (cfg : Config) (rs : List Record) (number place : ℕ) → judge rows (accepted cfg rs) ≡ refused number place
    → 1 ≤ number
unfolding judge number_in
judge-numbered [] h cfg rs zero place e = let z : ◌≡◌ {A = Reading} (accepted cfg rs) (refused 0 place) = e in absurd (apart z)
  where
    apart : ◌≡◌ {A = Reading} (accepted cfg rs) (refused 0 place) → ⊥
    apart z = let q : ◌≡◌ {A = ℕ} 0 1 = cc in omega (arith, q)
judge-numbered [] h cfg rs (suc number) place e = omega arith
judge-numbered (row k true p ∷ rows) h cfg rs number place e = judge-numbered rows h.1 cfg rs number place e
judge-numbered (row k false p ∷ rows) h cfg rs number place e = let q : k ≡ number = ap number_in e in omega (arith, h.0, q)

literals-numbered : (v at : ℕ) (ls : List ℕ) → Numbered (literal_rows v at ls)
unfolding literal_rows
literals-numbered v at [] = tt
literals-numbered v at (l ∷ ls) = (omega arith, literals-numbered v (at + 1) ls)

limits-numbered : (at : ℕ) (most cells : List ℕ) → Numbered (limit_rows at most cells)
unfolding limit_rows
limits-numbered at [] cells = tt
limits-numbered at (m ∷ ms) cells = (omega arith, limits-numbered (at + 1) ms (drop 1 cells))

records-numbered : (v n turns at : ℕ) (cells : List ℕ) → Numbered (record_rows v n turns at cells)
unfolding record_rows
records-numbered v n zero at cells = tt
records-numbered v n (suc turns) at [] = tt
records-numbered v n (suc turns) at (kind ∷ rest) =
    let count = get_or rest (lead kind) 0 in
    let body = drop (lead kind + 1) rest in
    let first = at + 2 + lead kind in
    let size = count + trailing kind in
    let literals = literal_rows v first (take count body) in
    let behind = limit_rows (first + count) (limits kind) (drop count body) in (
      omega arith,
      (
        omega arith,
        (
          omega arith,
          (
            omega arith,
            numbered-append (literals ++ behind) (record_rows v n turns (first + size) (drop size body))
                (numbered-append literals behind (literals-numbered v first (take count body)) (limits-numbered (first + count) (limits kind) (drop count body)))
                (records-numbered v n turns (first + size) (drop size body)),
          ),
        ),
      ),
    )

header-numbered : (n : ℕ) (h : Config) → Numbered (header_rows n h)
unfolding header_rows
header-numbered n h = (omega arith, (omega arith, (omega arith, (omega arith, (omega arith, (omega arith, (omega arith, tt)))))))

slices_numbered : (h : Config) (work activities : ℕ) → Numbered (slice_rows h work activities)
unfolding slice_rows
slices_numbered h work activities = (omega arith, (omega arith, tt))

out_numbered : (needed out : ℕ) → Numbered (out_rows needed out)
unfolding out_rows
out_numbered needed out = (omega arith, tt)

pub refused_numbered : (s : List ℕ) (work activities out number place : ℕ) → read s work activities out ≡ refused number place → 1 ≤ number
unfolding read
refused_numbered s work activities out number place e =
    let n = length s in
    let h = header s in
    let v = h.variables in
    let rs = records_of s in
    let a = header_rows n h in
    let b = slice_rows h work activities in
    let c = record_rows v n n header_cells (drop header_cells s) in
    let d = out_rows (out_needed v rs) out in
    judge-numbered (a ++ b ++ c ++ d)
    (numbered-append (a ++ b ++ c) d (numbered-append (a ++ b) c (numbered-append a b (header-numbered n h) (slices_numbered h work activities)) (records-numbered v n n header_cells (drop header_cells s)))
    (out_numbered (out_needed v rs) out))
    h rs number place e
