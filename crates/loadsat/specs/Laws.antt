-- The parts of `output`, as the code meets them.
use Rattle.std.specs.Prelude.{ℕ, ◌≤◌, min, ◌≡◌, length, get_or, drop, replicate, Float, Result, Ok, Err}
use Rattle.std.proofs.Math.Path.{sym, ap}
use Rattle.std.proofs.Common.{subst, ◌∙◌, arith, zero-add, length-append, Fits, length-take-le}
use mathlib.Core.List.{List, ◌++◌}
use Rattle.model.specs.State.{f64_zero}
use Rattle.std.proofs.Math.ListN.{take}
use Rattle.std.specs.Int.{w32}
use Rattle.std.proofs.Math.Seq.{take_at}
use Rattle.std.proofs.lemmas.List.Edits.{sets-eq}
use Rattle.model.specs.Run.{After, turned_back, ran, after}
use Rattle.engine.specs.Runs.{answer_of, Runs}
use Rattle.refusal.specs.declared.Refusal.{Refusal}
use Rattle.refusal.specs.Number.{number}
use Rattle.text.specs.Limits.{max_bytes, max_cells}
use Rattle.text.specs.Format.{Reading, refused, script, read_text, record_lines}
use Rattle.text.specs.Answers.{printed_refusal, printed}
use Rattle.text.specs.PrintBound.{Small}
use Rattle.text.specs.ReadLaws.{Read}
use Rattle.text.specs.WriteLaws.{Written}
use Rattle.text.specs.FormatLaws.{over}
use Rattle.text.specs.ReadLaws as read
use Rattle.text.specs.declared.reading.Script.{Script}
use Rattle.loadsat.specs.Bench.{answered, shown, output, Printed}

-- ---- there is room for all of it

-- a slice of 32-bit cells
pub small : (xs : List ℕ) → ((k : ℕ) → Fits w32 (get_or xs k 0)) → Small xs
unfolding Small
small xs f k = omega (arith, f k)

pub whole : {before xs after : List ℕ} {r : ℕ} (ys : List ℕ) → max_bytes ≤ length before → Written before 0 xs after r → length xs ≤ max_bytes → xs ≡ ys
    → Printed before ys after r
whole {before} {xs} {after} {r} ys h w fits e =
    subst (λ (zs : List ℕ). Printed before zs after r) e
    record {
      slice = w.slice ∙ sets-eq xs before 0 (omega arith) ∙ ap (λ (k : ℕ). xs ++ drop k before) (zero-add (length xs));
      end = omega (arith, w.end);
    }

pub printed_as : {before xs after : List ℕ} {r : ℕ} (ys : List ℕ) → Printed before xs after r → xs ≡ ys → Printed before ys after r
printed_as {before} {xs} {after} {r} ys p e = subst (λ (zs : List ℕ). Printed before zs after r) e p

pub printed_in : {before xs after : List ℕ} {r : ℕ} → Printed before xs after r → r ≤ length after
printed_in {before} {xs} p = omega (arith, p.end, ap length p.slice, length-append xs (drop (length xs) before))

-- ---- the run's answer

answered_refused : (cells : List ℕ) (x : After) (number place : ℕ) → turned_back number place ≡ x.answer → answered cells x ≡ printed_refusal number place
unfolding answered
answered_refused cells x number place e = rw (← e, answered)

answered_ran : (cells : List ℕ) (x : After) (n : ℕ) → ran n ≡ x.answer → answered cells x ≡ printed cells (record_lines max_cells) x.out
unfolding answered
answered_ran cells x n e = rw (← e, answered)

module _ {s w : List ℕ} {a : List Float} {o w' : List ℕ} {a' : List Float} {o' : List ℕ} {r : Result ℕ Refusal} (p : Runs s w a o r w' a' o') where
  pub run_refused : (f : Refusal) → r ≡ Err f → printed_refusal (number f.rule) f.place ≡ answered s (after s w a o)
  run_refused f e = sym (answered_refused s (after s w a o) (number f.rule) f.place (sym (ap answer_of e) ∙ p.answer))

  pub run_ran : (n : ℕ) → r ≡ Ok n → printed s (record_lines max_cells) o' ≡ answered s (after s w a o)
  run_ran n e =
      ap (printed s (record_lines max_cells)) p.out
      ∙ sym (answered_ran s (after s w a o) n (sym (ap answer_of e) ∙ p.answer))

-- ---- the text as it is read

refused_of : (w : List ℕ) (a : List Float) (o : List ℕ) (x : Reading) (f : Refusal) → Err f ≡ read.answer_of x → printed_refusal (number f.rule) f.place ≡ shown w a o x
unfolding shown
refused_of w a o (refused rule q before) f e = let z : f ≡ record { rule = rule; place = q } = cc in ap (λ (g : Refusal). printed_refusal (number g.rule) g.place) z
refused_of w a o (script xs k) f e = cc

script_of : (x : Reading) (s : Script) → Ok s ≡ read.answer_of x → (xs : List ℕ) × (x ≡ script xs s.records) × (length xs ≡ s.cells)
script_of (refused rule q before) s e = absurd (cc)
script_of (script xs k) s e = let z : s ≡ record { cells = length xs; records = k } = cc in (xs, ap (λ (t : Script). script xs t.records) (sym z), ap (λ (t : Script). t.cells) (sym z))

-- read into a slice of max_cells cells
module _ (input : List ℕ) {before behind : List ℕ} {r : Result Script Refusal} (h : length before ≡ max_cells) (q : Read (read_text (min max_cells (length before)) input) before behind r) where
  p : Read (read_text max_cells input) before behind r
  p = subst (λ (room : ℕ). Read (read_text room input) before behind r) (omega (arith, h)) q

  pub text_refused : (w : List ℕ) (a : List Float) (o : List ℕ) (f : Refusal) → r ≡ Err f → printed_refusal (number f.rule) f.place ≡ shown w a o (read_text max_cells input)
  text_refused w a o f e = refused_of w a o (read_text max_cells input) f (sym e ∙ p.answer)

  module _ (s : Script) (e : r ≡ Ok s) where
    abbrev n : ℕ
    n = s.cells

    -- the script stands first in its slice
    stored : (xs : List ℕ) × (read_text max_cells input ≡ script xs s.records) × (length xs ≡ n) × (behind ≡ xs ++ drop (length xs) before)
    stored =
        let t = script_of (read_text max_cells input) s (sym e ∙ p.answer) in
        (t.0, t.1, t.2, p.slice ∙ ap (λ (y : Reading). over (read.stored y) before) t.1)

    pub cells_in : n ≤ length behind
    cells_in =
        let t = stored in
        omega (arith, ap length t.3, length-append t.0 (drop (length t.0) before), t.2)

    pub script_short : length behind ≡ length before → length (take n behind) ≤ max_cells
    script_short l = omega (arith, length-take-le n behind cells_in, cells_in, l, h)

    pub text_script : (w : List ℕ) (a : List Float) (o : List ℕ)
        → answered (take n behind) (after (take n behind) w a o) ≡ shown w a o (read_text max_cells input)
    unfolding shown
    text_script w a o =
        let t = stored in
        let first : take n behind ≡ t.0 = ap (take n) t.3 ∙ take_at t.0 (drop (length t.0) before) n t.2 in
        ap (λ (l : List ℕ). answered l (after l w a o)) first ∙ sym (ap (shown w a o) t.1)

-- a run over as many work cells as the program's, each 0, is the program's
pub output_over : (w input : List ℕ) {before xs : List ℕ} {r : ℕ} → Printed before (shown w (replicate 128 f64_zero) (replicate max_cells 0) (read_text max_cells input)) xs r
    → length w ≡ 12352 → w ≡ replicate (length w) 0 → Printed before (output input) xs r
unfolding output
output_over w input {before} {xs} {r} p n z =
    subst (λ (u : List ℕ). Printed before (shown u (replicate 128 f64_zero) (replicate max_cells 0) (read_text max_cells input)) xs r)
    (z ∙ ap (λ (k : ℕ). replicate k 0) n) p
