-- What an accepted script is: every row of the table, in numbers.
use Rattle.std.specs.Prelude.{ℕ, ◌*◌, ◌≤◌, ◌<◌, ◌≡◌, refl, true, List, ◌++◌, length, get_or, drop}
use Rattle.std.proofs.Common.{sym, ◌∙◌, subst, arith, length-take, leb-true, le-leb}
use Rattle.model.specs.Limits as Limits
use Rattle.model.specs.Limits.{header_cells}
use Rattle.model.specs.Script.{Config, Record, Row, clause, solve, clause_kind, solve_kind, known, most_count, limits, record_as, accepted, header, header_rows, slice_rows, out_rows, records_of, out_needed, work_needed, read}
use Rattle.lawbase.specs.Basics.{Every, every_nil, every_cons}
use Rattle.script.specs.Judging.{Hold, hold_append, hold_left, hold_right, hold_judge, judge_hold}
use Rattle.script.specs.Walk.{kind_at, count_at, first_at, lead_at, literals_at, behind_at, record_at, records_from, records_step, records_end, rows_from, walk_induction}
use Rattle.script.specs.Kinds.{kind_cases}
use Rattle.script.specs.Sound.{RecordIn, Readable, readable_here, readable_next}
use Rattle.script.specs.Needs.{script_rows}
use Rattle.script.specs.Front.{from_one, HeaderIn, header_in, read_parts}

-- the literals of a record of that kind, of v variables
pub record LiteralsFit (kind v : ℕ) (ls : List ℕ) : Type 0 where
  pub count : length ls ≤ most_count kind v
  pub literals : Every (λ l. l < 2 * v) ls

abbrev pub RecordFits : ℕ → Record → Type 0
RecordFits v (clause ls) = LiteralsFit clause_kind v ls
RecordFits v (solve ls budget) = LiteralsFit solve_kind v ls × (budget ≤ Limits.max_budget)

-- a script that may run with work, activities and out of these lengths
pub record Accepted (s : List ℕ) (work activities out : ℕ) : Type 0 where
  pub header_fits : HeaderIn s
  pub work_fits : work_needed (header s) ≤ work
  pub activities_fit : (header s).variables ≤ activities
  -- by cell, for a walk over the script: readable_here, readable_next
  pub readable : Readable (header s).variables s header_cells
  -- and by record
  pub records_fit : Every (RecordFits (header s).variables) (records_of s)
  pub out_fits : out_needed (header s).variables (records_of s) ≤ out

as_fits : (v kind : ℕ) (before ls behind : List ℕ) → known kind ≡ true → LiteralsFit kind v ls → ((i : ℕ) → get_or behind i 0 ≤ get_or (limits kind) i 0)
    → RecordFits v (record_as kind before ls behind)
unfolding record_as limits
as_fits v kind before ls behind k =
    kind_cases (λ x. LiteralsFit x v ls → ((i : ℕ) → get_or behind i 0 ≤ get_or (limits x) i 0) → RecordFits v (record_as x before ls behind)) (λ f h. f) (λ f h. (f, h 0)) kind k

record_fits : (v : ℕ) (s : List ℕ) (at : ℕ) → RecordIn v s at → RecordFits v (record_at s at)
record_fits v s at r =
    let few = length-take (count_at s at) (drop (first_at s at) s) in
    let fit : LiteralsFit (kind_at s at) v (literals_at s at) =
    record { count = omega (arith, few, r.count); literals = r.literals } in
    as_fits v (kind_at s at) (lead_at s at) (literals_at s at) (behind_at s at) r.kind fit r.behind

pub readable_fits : (v : ℕ) (s : List ℕ) (at : ℕ) → Readable v s at → Every (RecordFits v) (records_from s at)
readable_fits v s =
    walk_induction (λ at. Readable v s at → Every (RecordFits v) (records_from s at)) s
    (λ at h r. rw (records_end s at h) (every_nil (RecordFits v)))
    (λ at h next r.
    rw (records_step s at h)
    (every_cons (RecordFits v) (record_fits v s at (readable_here v s at h r)) (next (readable_next v s at h r))))

-- the records of a script are those from its first record cell on
pub records_first : (s : List ℕ) → records_from s header_cells ≡ records_of s
unfolding records_from records_of
records_first s = refl

rows_accepted : (s : List ℕ) (work activities out : ℕ) → Hold (script_rows (header s) s work activities out) → Accepted s work activities out
unfolding slice_rows out_rows
rows_accepted s work activities out r =
    let v = (header s).variables in
    let heads = header_rows (length s) (header s) in
    let slices = slice_rows (header s) work activities in
    let walk = rows_from v s header_cells in
    let outs = out_rows (out_needed v (records_from s header_cells)) out in
    let behind_heads = hold_right heads (slices ++ (walk ++ outs)) r in
    let slice = hold_left slices (walk ++ outs) behind_heads in
    let behind_slices = hold_right slices (walk ++ outs) behind_heads in
    let needed = hold_right walk outs behind_slices in
    let whole : Readable v s header_cells = record { rows = hold_left walk outs behind_slices } in
    record {
      header_fits = header_in s (hold_left heads (slices ++ (walk ++ outs)) r);
      work_fits = leb-true (work_needed (header s)) work slice.0;
      activities_fit = leb-true v activities slice.1.0;
      readable = whole;
      records_fit = subst (Every (RecordFits v)) (records_first s) (readable_fits v s header_cells whole);
      out_fits = subst (λ (rs : List Record). out_needed v rs ≤ out) (records_first s) (leb-true (out_needed v (records_from s header_cells)) out needed.0);
    }

module _ (s : List ℕ) (work activities out : ℕ) where
  abbrev rows : List Row
  rows = script_rows (header s) s work activities out

  module _ (cfg : Config) (rs : List Record) (e : read s work activities out ≡ accepted cfg rs) where
    rows_hold : Hold rows
    rows_hold = judge_hold rows (accepted (header s) (records_of s)) cfg rs (sym (read_parts s work activities out (header s) refl) ∙ e)

    pub accepted_of : Accepted s work activities out
    accepted_of = rows_accepted s work activities out rows_hold

    -- what is accepted is the script's own header and records
    accepted_same : accepted (header s) (records_of s) ≡ accepted cfg rs
    accepted_same = sym (hold_judge rows rows_hold (accepted (header s) (records_of s))) ∙ sym (read_parts s work activities out (header s) refl) ∙ e

    pub accepted_header : cfg ≡ header s
    accepted_header = let z = accepted_same in cc

    pub accepted_records : rs ≡ records_of s
    accepted_records = let z = accepted_same in cc

  -- the same from the code's Ok
  pub judged_accepted : accepted (header s) (records_of s) ≡ read s work activities out → Accepted s work activities out
  judged_accepted h = accepted_of (header s) (records_of s) (sym h)

-- ---- and the other way: nothing is left out

from_one_in : (x high : ℕ) → 1 ≤ x → x ≤ high → from_one x high ≡ true
from_one_in x high l h = rw (le-leb 1 x l) (le-leb x high h)

header_hold : (s : List ℕ) → HeaderIn s → Hold (header_rows (length s) (header s))
unfolding header_rows
header_hold s h =
    let c = header s in (
      le-leb header_cells (length s) h.cells,
      (
        from_one_in c.variables Limits.max_variables h.some_variable h.variables,
        (
          le-leb c.max_clauses Limits.max_clauses h.clauses,
          (
            le-leb c.max_literals Limits.max_literals h.literals,
            (
              le-leb c.mode Limits.max_mode h.mode,
              (le-leb c.phase Limits.max_phase h.phase, (from_one_in c.unit Limits.max_unit h.some_unit h.unit, tt)),
            ),
          ),
        ),
      ),
    )

pub accepted_read : (s : List ℕ) (work activities out : ℕ) → Accepted s work activities out → read s work activities out ≡ accepted (header s) (records_of s)
unfolding slice_rows out_rows
accepted_read s work activities out h =
    let v = (header s).variables in
    let k = accepted (header s) (records_of s) in
    let heads = header_rows (length s) (header s) in
    let slices = slice_rows (header s) work activities in
    let walk = rows_from v s header_cells in
    let need = out_needed v (records_from s header_cells) in
    let outs = out_rows need out in
    let enough : need ≤ out = subst (λ (rs : List Record). out_needed v rs ≤ out) (sym (records_first s)) h.out_fits in
    let slice : Hold slices = (le-leb (work_needed (header s)) work h.work_fits, (le-leb v activities h.activities_fit, tt)) in
    let back : Hold (walk ++ outs) = hold_append walk outs h.readable.rows (le-leb need out enough, tt) in
    let all : Hold (heads ++ (slices ++ (walk ++ outs))) = hold_append heads (slices ++ (walk ++ outs)) (header_hold s h.header_fits) (hold_append slices (walk ++ outs) slice back) in
    read_parts s work activities out (header s) refl ∙ hold_judge (heads ++ (slices ++ (walk ++ outs))) all k
