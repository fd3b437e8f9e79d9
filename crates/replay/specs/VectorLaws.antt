-- Whether a vector holds, from the engine's promise and the code's comparing.
use Rattle.std.specs.Prelude.{◌≡◌, ℕ, zero, suc, ◌+◌, ◌-◌, ◌<◌, ◌≤◌, false, ◌&&◌, List, ◌++◌, length, take, drop, replicate, ◌==◌, nat_le, slice_index, slice_index_or, Float, Result, Ok, Err}
use Rattle.std.proofs.Math.Path.{refl, ap}
use Rattle.std.proofs.Common.{sym, ◌∙◌, arith, length-drop, take_all, drop-drop}
use Rattle.std.specs.Cmp.{nat_eq_equiv}
use borrow.Author.Tests.{le-leb, lt-leb, ne_eqb}
use Rattle.model.specs.Limits.{header_cells}
use Rattle.model.specs.Script.{header, work_needed}
use Rattle.model.specs.Run.{Answer, turned_back, ran, After, after}
use Rattle.script.specs.Needs.{sized}
use Rattle.engine.specs.Answering.{refusal_numbered}
use Rattle.engine.specs.Runs.{answer_of, Runs}
use Rattle.refusal.specs.declared.Refusal.{Refusal}
use Rattle.refusal.specs.Number.{number}
use Rattle.replay.specs.CellLaws.{length-cells, and_first}
use Rattle.replay.specs.Cells.{noise_cells, noise_floats, float, same, same_floats}
use Rattle.replay.specs.Vector.{same_answer, agrees, cleared, wanted, is_run, untouched, passes, vector_holds}

-- ---- what a run clears

module _ (s : List ℕ) where
  pub cleared_none : length s < header_cells → cleared s ≡ 0
  unfolding cleared
  cleared_none h = rw (lt-leb header_cells (length s) h, cleared)

  pub cleared_some : header_cells ≤ length s → cleared s ≡ work_needed (sized (slice_index s 0) (slice_index s 1) (slice_index s 2))
  unfolding cleared header work_needed
  cleared_some h = rw (le-leb header_cells (length s) h, cleared)

pub first_cell : (s : List ℕ) → slice_index s 0 ≡ (header s).variables
unfolding header
first_cell s = refl

-- ---- slices that a run left

-- test by test
pub is_run_tests : (s cells : List ℕ) (n : ℕ) (w : List ℕ) (a : List Float) (o : List ℕ)
    → is_run s cells n w a o
    ≡ (n == length cells
    && (same w (replicate (cleared s) 0 ++ drop (cleared s) (noise_cells (length w)))
    && (same_floats a (replicate (header s).variables (float 0) ++ drop (header s).variables (noise_floats (length a)))
    && same o (cells ++ drop (length cells) (noise_cells (length o))))))
unfolding is_run agrees wanted same_answer
is_run_tests s cells n w a o = refl

-- ---- a script run over noise

pub made : (y : After) (x : Answer) (w : List ℕ) (a : List Float) (o : List ℕ) → x ≡ y.answer → w ≡ y.work → a ≡ y.activities → o ≡ y.out
    → y ≡ record { answer = x; work = w; activities = a; out = o }
made y x w a o p q r t = rw (p, q, r, t)

module _ (s cells : List ℕ) (place : ℕ) (w : List ℕ) (a : List Float) (o : List ℕ) where
  abbrev left : Answer → After
  left x = record { answer = x; work = w; activities = a; out = o }

  abbrev wants : ℕ → After
  wants refusal = wanted s refusal place cells (length w) (length a) (length o)

  ran_agrees : (n refusal : ℕ) → agrees (left (ran n)) (wants refusal) ≡ (refusal == 0 && is_run s cells n w a o)
  unfolding is_run agrees wanted same_answer
  ran_agrees n zero = refl
  ran_agrees n (suc k) = let e : (suc k == 0) ≡ false = ne_eqb (suc k) 0 (λ e. omega arith) in rw e

  refused_agrees : (m q refusal : ℕ) → 1 ≤ m → agrees (left (turned_back m q)) (wants refusal) ≡ ((refusal == m && place == q) && untouched w a o)
  unfolding untouched agrees wanted same_answer
  refused_agrees m q zero h = let e : (0 == m) ≡ false = ne_eqb 0 m (λ e. omega arith) in rw e
  refused_agrees m q (suc k) h = rw (nat_eq_equiv.symm m (suc k), nat_eq_equiv.symm q place)

  module _ {w₀ : List ℕ} {a₀ : List Float} {o₀ : List ℕ} {r : Result ℕ Refusal} (work activities out : ℕ) (u : Runs s w₀ a₀ o₀ r w a o)
      (ew : w₀ ≡ noise_cells work) (ea : a₀ ≡ noise_floats activities) (eo : o₀ ≡ noise_cells out)
      (lw : length w ≡ length w₀) (la : length a ≡ length a₀) (lo : length o ≡ length o₀) (refusal : ℕ) where
    over_noise : Runs s (noise_cells work) (noise_floats activities) (noise_cells out) r w a o
    over_noise = rw (ew, ea, eo) at u

    passes_by : (x : Answer) → answer_of r ≡ x → passes s refusal place cells work activities out ≡ agrees (left x) (wants refusal)
    unfolding passes
    passes_by x e =
        let k = over_noise in
        let nw : length w ≡ work = lw ∙ ap length ew ∙ length-cells _ 0 work in
        let na : length a ≡ activities = la ∙ ap length ea ∙ length-cells _ 0 activities in
        let no : length o ≡ out = lo ∙ ap length eo ∙ length-cells _ 0 out in
        rw (nw, na, no)
        (ap (λ (z : After). agrees z (wanted s refusal place cells work activities out))
        (made (after s (noise_cells work) (noise_floats activities) (noise_cells out)) x w a o (sym e ∙ k.answer) k.work k.activities k.out))

    -- of a run, and of a refusal
    pub passes_ran : (n : ℕ) → r ≡ Ok n → passes s refusal place cells work activities out ≡ (refusal == 0 && is_run s cells n w a o)
    passes_ran n e = passes_by (ran n) (ap answer_of e) ∙ ran_agrees n refusal

    pub passes_refused : (f : Refusal) → r ≡ Err f
        → passes s refusal place cells work activities out ≡ ((refusal == number f.rule && place == f.place) && untouched w a o)
    passes_refused f e =
        let some : 1 ≤ number f.rule = refusal_numbered s w₀ a₀ o₀ (number f.rule) f.place (sym u.answer ∙ ap answer_of e) in
        passes_by (turned_back (number f.rule) f.place) (ap answer_of e) ∙ refused_agrees (number f.rule) f.place refusal some

-- ---- a vector in numbers

module _ (ns : List ℕ) (w a o : ℕ) where
  pub holds_short : length ns < 6 → false ≡ vector_holds ns w a o
  unfolding vector_holds
  holds_short h = and_first (nat_le 6 (length ns)) _ (lt-leb 6 (length ns) h)

  holds_passes : 6 ≤ length ns → slice_index_or ns 0 0 ≤ w → slice_index_or ns 1 0 ≤ a → slice_index_or ns 2 0 ≤ o → slice_index_or ns 5 0 ≤ length ns - 6
      → vector_holds ns w a o
      ≡ passes (take (slice_index ns 5) (drop 6 ns)) (slice_index ns 3) (slice_index ns 4) (drop (6 + slice_index ns 5) ns) (slice_index ns 0) (slice_index ns 1) (slice_index ns 2)
  unfolding vector_holds
  holds_passes h hw ha ho hc =
      rw (vector_holds, le-leb 6 (length ns) h, le-leb (slice_index ns 0) w hw, le-leb (slice_index ns 1) a ha, le-leb (slice_index ns 2) o ho, le-leb (slice_index ns 5) (length ns - 6) hc)

  -- from the slices as they are cut
  pub holds_gives : 6 ≤ length ns → slice_index_or ns 0 0 ≤ w → slice_index_or ns 1 0 ≤ a → slice_index_or ns 2 0 ≤ o → slice_index_or ns 5 0 ≤ length ns - 6
      → (work activities out : ℕ) → work ≡ slice_index ns 0 → activities ≡ slice_index ns 1 → out ≡ slice_index ns 2
      → passes (take (slice_index ns 5) (take (length ns - 6) (drop 6 ns))) (slice_index ns 3) (slice_index ns 4)
      (take (length (take (length ns - 6) (drop 6 ns)) - slice_index ns 5) (drop (slice_index ns 5) (take (length ns - 6) (drop 6 ns)))) work activities out
      ≡ vector_holds ns w a o
  holds_gives h hw ha ho hc work activities out ew ea eo =
      let n = slice_index ns 5 in
      let cells : take (length ns - 6) (drop 6 ns) ≡ drop 6 ns = take_all (length ns - 6) (drop 6 ns) (omega (arith, length-drop 6 ns)) in
      let want : take (length (drop 6 ns) - n) (drop n (drop 6 ns)) ≡ drop (6 + n) ns =
      take_all (length (drop 6 ns) - n) (drop n (drop 6 ns)) (omega (arith, length-drop n (drop 6 ns))) ∙ drop-drop n 6 ns in
      rw (cells, want, ew, ea, eo) (sym (holds_passes h hw ha ho hc))
