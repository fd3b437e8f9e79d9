-- What the rows say of a record whose rows hold, in numbers; and the walk over records that are all so.
use Rattle.std.specs.Prelude.{ℕ, zero, suc, ◌+◌, ◌*◌, ◌-◌, ◌≤◌, ◌<◌, ◌≡◌, refl, Bool, true, false, ◌&&◌, List, [], ◌∷◌, length, get_or, drop}
use Rattle.std.proofs.Common.{subst, arith, not-suc-le-zero, le_of_suc-le-suc, get_or-drop, leb-true, ltb-true}
use Rattle.std.proofs.Math.Decide.{dec_lt}
use Rattle.model.specs.Script.{known, lead, most_count, limits, trailing, literal_rows, limit_rows}
use Rattle.lawbase.specs.Basics.{Every, every_nil, every_cons}
use Rattle.script.specs.Judging.{Hold, Hold-prop, hold_left, hold_right}
use Rattle.script.specs.Walk.{kind_at, count_at, size_at, first_at, end_at, literals_at, behind_at, behind_cell, behind_none, next_at, RecordAt, head_rows, literals_rows, last_rows, body_rows, rows_at, rows_from, rows_step}

pub and_left : (a b : Bool) → (a && b) ≡ true → a ≡ true
and_left true b e = refl
and_left false b e = e

pub and_right : (a b : Bool) → (a && b) ≡ true → b ≡ true
and_right true b e = e
and_right false b e = let z : false ≡ true = e in cc

-- the record that begins at a cell of a script of v variables is as the table asks
pub record RecordIn (v : ℕ) (s : List ℕ) (at : ℕ) : Type 0 where
  pub whole : RecordAt s at
  pub kind : known (kind_at s at) ≡ true
  pub count : count_at s at ≤ most_count (kind_at s at) v
  pub literals : Every (λ l. l < 2 * v) (literals_at s at)
  pub behind : (i : ℕ) → get_or (behind_at s at) i 0 ≤ get_or (limits (kind_at s at)) i 0

-- every row of the records from a cell on holds
pub record Readable (v : ℕ) (s : List ℕ) (at : ℕ) : Type 0 where
  pub rows : Hold (rows_from v s at)

pub Readable-prop : (v : ℕ) (s : List ℕ) (at : ℕ) → IsProp (Readable v s at)
Readable-prop v s at x y = λ i. record { rows = Hold-prop (rows_from v s at) x.rows y.rows i }

pub whole_of : (v : ℕ) (s : List ℕ) (at : ℕ) → at < length s → Hold (head_rows v s at) → RecordAt s at
whole_of v s at h r =
    let kind = kind_at s at in
    let first : lead kind + 1 ≤ length s - (at + 1) = leb-true (lead kind + 1) (length s - (at + 1)) r.1.0 in
    let rest : size_at s at ≤ length s - first_at s at = leb-true (size_at s at) (length s - first_at s at) r.1.1.1.0 in
    record { head = omega arith; body = omega arith }

pub literals_in : (v at : ℕ) (ls : List ℕ) → Hold (literal_rows v at ls) → Every (λ l. l < 2 * v) ls
unfolding literal_rows
literals_in v at [] h = every_nil (λ l. l < 2 * v)
literals_in v at (l ∷ ls) h = every_cons (λ l. l < 2 * v) (ltb-true l (2 * v) h.0) (literals_in v (at + 1) ls h.1)

limits_in : (at : ℕ) (most cells : List ℕ) → Hold (limit_rows at most cells) → (i : ℕ) → i < length most → get_or cells i 0 ≤ get_or most i 0
unfolding limit_rows
limits_in at [] cells h i g = absurd (not-suc-le-zero g)
limits_in at (m ∷ ms) cells h zero g = leb-true (get_or cells 0 0) m h.0
limits_in at (m ∷ ms) cells h (suc i) g =
    let below : get_or (drop 1 cells) i 0 ≤ get_or ms i 0 = limits_in (at + 1) ms (drop 1 cells) h.1 i (le_of_suc-le-suc g) in
    subst (λ (x : ℕ). x ≤ get_or ms i 0) (next cells) below
  where
    next : (cells : List ℕ) → get_or (drop 1 cells) i 0 ≡ get_or cells (suc i) 0
    next [] = refl
    next (x ∷ xs) = refl

behind_in : (s : List ℕ) (at : ℕ) → Hold (last_rows s at) → (i : ℕ) → get_or (behind_at s at) i 0 ≤ get_or (limits (kind_at s at)) i 0
unfolding trailing
behind_in s at h i = go (dec_lt i (trailing (kind_at s at)))
  where
    go : Dec (i < trailing (kind_at s at)) → get_or (behind_at s at) i 0 ≤ get_or (limits (kind_at s at)) i 0
    go (yes l) =
        omega (arith, behind_cell s at i l, get_or-drop (end_at s at) s i 0, limits_in (end_at s at) (limits (kind_at s at)) (drop (end_at s at) s) h i l)
    go (no n) = omega (arith, behind_none s at i (omega arith))

pub record_in : (v : ℕ) (s : List ℕ) (at : ℕ) → at < length s → Hold (rows_at v s at) → RecordIn v s at
record_in v s at h r =
    let head = hold_left (head_rows v s at) (body_rows v s at) r in
    let body = hold_right (head_rows v s at) (body_rows v s at) r in
    let lits = literals_rows v s at in
    let last = last_rows s at in
    record {
      whole = whole_of v s at h head;
      kind = head.0;
      count = leb-true (count_at s at) (most_count (kind_at s at) v) head.1.1.0;
      literals = literals_in v (first_at s at) (literals_at s at) (hold_left lits last body);
      behind = behind_in s at (hold_right lits last body);
    }

pub readable_here : (v : ℕ) (s : List ℕ) (at : ℕ) → at < length s → Readable v s at → RecordIn v s at
readable_here v s at h r =
    record_in v s at h (hold_left (rows_at v s at) (rows_from v s (next_at s at)) (subst Hold (rows_step v s at h) r.rows))

pub readable_next : (v : ℕ) (s : List ℕ) (at : ℕ) → at < length s → Readable v s at → Readable v s (next_at s at)
readable_next v s at h r =
    record { rows = hold_right (rows_at v s at) (rows_from v s (next_at s at)) (subst Hold (rows_step v s at h) r.rows) }
