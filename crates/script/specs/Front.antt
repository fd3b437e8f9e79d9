-- The judgement of the header, of the lengths of the slices and of out's, by the facts that the code tests; and what a header whose rows hold says.
use Rattle.std.specs.Prelude.{ℕ, ◌≤◌, ◌≡◌, Bool, ◌&&◌, List, ◌++◌, length, drop, leb, Result}
use Rattle.std.proofs.Common.{sym, subst, ◌∙◌, append_assoc, leb-true}
use Rattle.model.specs.Limits as Limits
use Rattle.model.specs.Limits.{header_cells}
use Rattle.model.specs.Script.{Config, Row, header, header_rows, slice_rows, record_rows, records, records_of, out_needed, out_rows, accepted, judge, read}
use Rattle.refusal.specs.declared.Refusal.{Refusal}
use Rattle.options.specs.Numbers.{mode_number, phase_number}
use Rattle.script.specs.declared.Header.{Header}
use Rattle.script.specs.Judging.{Judged, reading_of, Hold}
use Rattle.script.specs.Sound.{and_left, and_right}
use Rattle.script.specs.Walk.{rows_from, records_from}
use Rattle.script.specs.Needs.{script_rows}

-- from 1 up to a limit
abbrev pub from_one : ℕ → ℕ → Bool
from_one x high = leb 1 x && leb x high

-- what a header's cells say
abbrev pub config_of : Header → Config
config_of h =
    record {
      variables = h.variables;
      max_clauses = h.clauses;
      max_literals = h.literals;
      mode = mode_number h.mode;
      phase = phase_number h.phase;
      unit = h.unit;
    }

-- ---- what a header says whose rows hold

pub record HeaderIn (s : List ℕ) : Type 0 where
  pub cells : header_cells ≤ length s
  pub some_variable : 1 ≤ (header s).variables
  pub variables : (header s).variables ≤ Limits.max_variables
  pub clauses : (header s).max_clauses ≤ Limits.max_clauses
  pub literals : (header s).max_literals ≤ Limits.max_literals
  pub mode : (header s).mode ≤ Limits.max_mode
  pub phase : (header s).phase ≤ Limits.max_phase
  pub some_unit : 1 ≤ (header s).unit
  pub unit : (header s).unit ≤ Limits.max_unit

pub header_in : (s : List ℕ) → Hold (header_rows (length s) (header s)) → HeaderIn s
unfolding header_rows
header_in s r =
    let c = header s in
    let v = r.1.0 in
    let u = r.1.1.1.1.1.1.0 in
    record {
      cells = leb-true header_cells (length s) r.0;
      some_variable = leb-true 1 c.variables (and_left (leb 1 c.variables) (leb c.variables Limits.max_variables) v);
      variables = leb-true c.variables Limits.max_variables (and_right (leb 1 c.variables) (leb c.variables Limits.max_variables) v);
      clauses = leb-true c.max_clauses Limits.max_clauses r.1.1.0;
      literals = leb-true c.max_literals Limits.max_literals r.1.1.1.0;
      mode = leb-true c.mode Limits.max_mode r.1.1.1.1.0;
      phase = leb-true c.phase Limits.max_phase r.1.1.1.1.1.0;
      some_unit = leb-true 1 c.unit (and_left (leb 1 c.unit) (leb c.unit Limits.max_unit) u);
      unit = leb-true c.unit Limits.max_unit (and_right (leb 1 c.unit) (leb c.unit Limits.max_unit) u);
    }

-- ---- the whole table, from its parts

pub read_parts : (s : List ℕ) (work activities out : ℕ) (h : Config) → h ≡ header s
    → read s work activities out ≡ judge (script_rows h s work activities out) (accepted (header s) (records_of s))
unfolding read rows_from records_from records_of
read_parts s work activities out h e =
    let n = length s in
    let walk = record_rows h.variables n n header_cells (drop header_cells s) in
    let outs = out_rows (out_needed h.variables (records n (drop header_cells s))) out in
    rw (
      ← e,
      ← append_assoc (slice_rows h work activities) walk outs,
      ← append_assoc (header_rows n h) (slice_rows h work activities ++ walk) outs,
      ← append_assoc (header_rows n h) (slice_rows h work activities) walk,
    )

pub judged_read : {A : Type 0} (s : List ℕ) (work activities out : ℕ) (h : Config) (j : Result A Refusal) → h ≡ header s → Judged j (script_rows h s work activities out)
    → reading_of s j ≡ read s work activities out
judged_read s work activities out h j e g = g.same (accepted (header s) (records_of s)) ∙ sym (read_parts s work activities out h e)

-- the parts by what the code has read
pub header_judged : {A : Type 0} {j : Result A Refusal} (n : ℕ) {h h' : Config} → h ≡ h' → Judged j (header_rows n h') → Judged j (header_rows n h)
header_judged {j = j} n e g = subst (λ (x : Config). Judged j (header_rows n x)) (sym e) g

abbrev pub need_rows : ℕ → List ℕ → ℕ → List Row
need_rows v s out = out_rows (out_needed v (records_from s header_cells)) out

pub out_judged : {A : Type 0} {j : Result A Refusal} (v : ℕ) (s : List ℕ) {w : ℕ} {t : List ℕ} (out : ℕ) → w ≡ v → t ≡ s → Judged j (need_rows w t out) → Judged j (need_rows v s out)
out_judged {j = j} v s {w} {t} out p q g = subst (λ (x : ℕ). Judged j (need_rows x s out)) p (subst (λ (x : List ℕ). Judged j (need_rows w x out)) q g)
