-- The rows of a script in the parts that the code judges, and the lengths that a script needs.
use Rattle.std.specs.Prelude.{ℕ, ◌+◌, ◌*◌, ◌≤◌, ◌<◌, min, Bool, List, ◌++◌, length, drop, Option, Some, None, Ok, Err, unwrap_or}
use Rattle.std.proofs.Math.Path.{◌≡◌, refl}
use Rattle.std.proofs.Common.{sym, ap, ◌∙◌, arith}
use Rattle.std.proofs.Math.Bool.{true, false}
use Rattle.std.proofs.Math.Dec.{leb}
use Rattle.std.proofs.Math.Decide.{dec_lt}
use borrow.Author.Tests.{le-leb, lt-leb, leb-true, leb-false}
use Rattle.model.specs.Limits as Limits
use Rattle.model.specs.Limits.{header_cells}
use Rattle.model.specs.Script.{Config, kind_of, cost, Row, Reading, refused, accepted, header, header_rows, slice_rows, out_rows, record_rows, out_needed, work_needed, records_of, judge}
use Rattle.refusal.specs.declared.Refusal.{Refusal}
use Rattle.script.specs.Judging.{Judged, judge-append}
use Rattle.script.specs.Walk.{record_at, next_at, records_from, records_step, records_end, rows_from}

-- ---- rows

-- the whole table for a script with this header, part by part
abbrev pub script_rows : Config → List ℕ → ℕ → ℕ → ℕ → List Row
script_rows h s work activities out =
    header_rows (length s) h
    ++ (slice_rows h work activities ++ (rows_from h.variables s header_cells ++ out_rows (out_needed h.variables (records_from s header_cells)) out))

-- ---- lengths

-- a header of these sizes
abbrev pub sized : ℕ → ℕ → ℕ → Config
sized v c l = record { variables = v; max_clauses = c; max_literals = l; mode = 0; phase = 0; unit = 1 }

pub work_is : (v c l : ℕ) → work_needed (sized v c l) ≡ Limits.work_per_variable * v + Limits.work_per_clause * c + l + Limits.work_besides
unfolding work_needed
work_is v c l = refl

-- the largest u64
abbrev pub max_cells : ℕ
max_cells = 18446744073709551615

-- the out cells that row 12 asks of what was accepted
abbrev pub length_of : Reading → ℕ
length_of (refused number place) = 0
length_of (accepted cfg rs) = min (out_needed cfg.variables rs) max_cells

-- The out cells that a script asks for, whatever slices it runs with: by the rows of the header and the records. Refused by one of these it asks for none.
unfoldable pub out_len_of : List ℕ → ℕ
out_len_of s =
    let n = length s in
    let h = header s in
    length_of (judge (header_rows n h ++ record_rows h.variables n n header_cells (drop header_cells s)) (accepted h (records_of s)))

-- a number of cells that a bound allows, or none
unfoldable pub within : ℕ → ℕ → Option ℕ
within need bound = elim (leb need bound) [ true ↦ Some need | false ↦ None ]

-- ---- the walk that adds up the out cells

pub needed_step : (v : ℕ) (s : List ℕ) (at : ℕ) → at < length s
    → out_needed v (records_from s at) ≡ cost (kind_of (record_at s at)) v + out_needed v (records_from s (next_at s at))
unfolding out_needed
needed_step v s at h = rw (records_step s at h)

pub needed_end : (v : ℕ) (s : List ℕ) (at : ℕ) → length s ≤ at → out_needed v (records_from s at) ≡ 0
unfolding out_needed
needed_end v s at h = rw (records_end s at h)

module _ (need bound : ℕ) where
  pub within_more : bound < need → within need bound ≡ None
  unfolding within
  within_more h = rw (lt-leb need bound h, within)

  pub within_cells : (n : ℕ) → n ≡ need → need ≤ bound → Some n ≡ within need bound
  unfolding within
  within_cells n e h = rw (le-leb need bound h, within) (ap Some e)

  -- what the two answers say
  pub cells_fit : (r : Option ℕ) (n : ℕ) → r ≡ within need bound → r ≡ Some n → (n ≡ need) × (need ≤ bound)
  unfolding within
  cells_fit r n e f = by_test (leb need bound) refl
    where
      by_test : (b : Bool) → leb need bound ≡ b → (n ≡ need) × (need ≤ bound)
      by_test true t =
          let g : within need bound ≡ Some need = rw (t, within) in
          (cc, leb-true need bound t)
      by_test false t =
          let g : within need bound ≡ None = rw (t, within) in
          let z : ◌≡◌ {A = ℕ} 0 1 = cc in
          absurd (omega arith)

  pub more_past : (r : Option ℕ) → r ≡ within need bound → r ≡ None → bound < need
  unfolding within
  more_past r e f = by_test (leb need bound) refl
    where
      by_test : (b : Bool) → leb need bound ≡ b → bound < need
      by_test true t =
          let g : within need bound ≡ Some need = rw (t, within) in
          let z : ◌≡◌ {A = ℕ} 0 1 = cc in
          absurd (omega arith)
      by_test false t = leb-false need bound t

  pub within-capped : unwrap_or (within need bound) bound ≡ min need bound
  within-capped = go (dec_lt bound need)
    where
      go : Dec (bound < need) → unwrap_or (within need bound) bound ≡ min need bound
      go (yes h) = rw (within_more h) (omega arith)
      go (no h) = ap (λ (r : Option ℕ). unwrap_or r bound) (sym (within_cells need refl (omega arith))) ∙ omega arith

-- ---- the out cells by the judgement of each part of the rows

module _ (s : List ℕ) (h : Config) (p : h ≡ header s) where
  abbrev walk : List Row
  walk = rows_from h.variables s header_cells

  len_parts : out_len_of s ≡ length_of (judge (header_rows (length s) h) (judge walk (accepted h (records_of s))))
  unfolding out_len_of rows_from
  len_parts =
      rw p (ap length_of (judge-append (header_rows (length s) (header s)) (rows_from (header s).variables s header_cells) (accepted (header s) (records_of s))))

  pub len_header : {A : Type 0} {e : Refusal} → Judged {A = A} (Err e) (header_rows (length s) h) → 0 ≡ out_len_of s
  len_header g = ap length_of (g.same (judge walk (accepted h (records_of s)))) ∙ sym len_parts

  module _ {A : Type 0} {t : A} (g : Judged (Ok t) (header_rows (length s) h)) where
    passed : out_len_of s ≡ length_of (judge walk (accepted h (records_of s)))
    passed = len_parts ∙ sym (ap length_of (g.same (judge walk (accepted h (records_of s)))))

    pub len_refused : {B : Type 0} {e : Refusal} → Judged {A = B} (Err e) walk → 0 ≡ out_len_of s
    len_refused w = ap length_of (w.same (accepted h (records_of s))) ∙ sym passed

    pub len_accepted : {B : Type 0} {u : B} → Judged (Ok u) walk → min (out_needed h.variables (records_from s header_cells)) max_cells ≡ out_len_of s
    unfolding records_from records_of
    len_accepted w = ap length_of (w.same (accepted h (records_of s))) ∙ sym passed
