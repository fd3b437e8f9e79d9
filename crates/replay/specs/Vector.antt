-- What a vector wants of its script, and whether the script gives it.
use Rattle.std.specs.Prelude.{ℕ, zero, suc, ◌+◌, ◌-◌, Bool, true, false, ◌&&◌, List, ◌++◌, length, take, drop, replicate, ◌==◌, nat_le, slice_index, Float}
use Rattle.model.specs.Limits.{header_cells}
use Rattle.model.specs.Script.{header, work_needed}
use Rattle.model.specs.Run.{Answer, turned_back, ran, After, after}
use Rattle.replay.specs.Cells.{noise_cells, noise_floats, float, same, same_floats}

-- ---- an answer and the slices behind it, compared

unfoldable pub same_answer : Answer → Answer → Bool
same_answer (turned_back n p) (turned_back m q) = n == m && p == q
same_answer (turned_back n p) (ran m) = false
same_answer (ran n) (turned_back m q) = false
same_answer (ran n) (ran m) = n == m

unfoldable pub agrees : After → After → Bool
agrees x y = same_answer x.answer y.answer && (same x.work y.work && (same_floats x.activities y.activities && same x.out y.out))

-- ---- a vector: a script, a refusal's number and place or 0 and any place, and the out cells of a run

-- the work cells that a run of a script clears: of a script without a header, none
unfoldable pub cleared : List ℕ → ℕ
cleared script = elim (nat_le header_cells (length script)) [ true ↦ work_needed (header script) | false ↦ 0 ]

-- What it wants of slices of these lengths that are full of noise. Of a run: the script's part of work and of the activities is 0, out begins with the cells, and
-- behind these all is noise still; of a refusal: nothing is written.
unfoldable pub wanted : (script : List ℕ) (refusal place : ℕ) (cells : List ℕ) (work activities out : ℕ) → After
wanted script zero place cells work activities out = record {
  answer = ran (length cells);
  work = replicate (cleared script) 0 ++ drop (cleared script) (noise_cells work);
  activities = replicate (header script).variables (float 0) ++ drop (header script).variables (noise_floats activities);
  out = cells ++ drop (length cells) (noise_cells out);
}
wanted script (suc n) place cells work activities out = record
    { answer = turned_back (suc n) place; work = noise_cells work; activities = noise_floats activities; out = noise_cells out }

-- a run of the script that wrote n out cells left these slices, which were full of noise, as wanted
unfoldable pub is_run : (script cells : List ℕ) (n : ℕ) (work : List ℕ) (activities : List Float) (out : List ℕ) → Bool
is_run script cells n work activities out =
    agrees record { answer = ran n; work = work; activities = activities; out = out }
    (wanted script 0 0 cells (length work) (length activities) (length out))

-- slices that are full of noise still
unfoldable pub untouched : (work : List ℕ) (activities : List Float) (out : List ℕ) → Bool
untouched work activities out =
    same work (noise_cells (length work)) && (same_floats activities (noise_floats (length activities)) && same out (noise_cells (length out)))

-- the script over such slices gives what is wanted, cell by cell
unfoldable pub passes : (script : List ℕ) (refusal place : ℕ) (cells : List ℕ) (work activities out : ℕ) → Bool
passes script refusal place cells work activities out =
    agrees (after script (noise_cells work) (noise_floats activities) (noise_cells out)) (wanted script refusal place cells work activities out)

-- ---- a vector in numbers: the lengths of work, activities and out; the refusal's number and place; how many cells the script has; these cells; the out cells

-- it holds over slices of these lengths, or more
unfoldable pub vector_holds : (numbers : List ℕ) (work activities out : ℕ) → Bool
vector_holds ns work activities out =
    nat_le 6 (length ns)
    && (nat_le (slice_index ns 0) work
    && (nat_le (slice_index ns 1) activities
    && (nat_le (slice_index ns 2) out
    && (nat_le (slice_index ns 5) (length ns - 6)
    && passes (take (slice_index ns 5) (drop 6 ns)) (slice_index ns 3) (slice_index ns 4) (drop (6 + slice_index ns 5) ns) (slice_index ns 0) (slice_index ns 1) (slice_index ns 2)))))
