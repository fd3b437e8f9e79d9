-- The cells are records of kind 1 that a script may have, and read back as the clauses.
use Rattle.std.specs.Prelude.{ℕ, ◌≤◌, ◌≡◌}
use mathlib.Core.List.{List, ◌++◌, map}
use Rattle.std.proofs.Math.ListN.{length}
use Rattle.model.specs.Limits.{header_cells}
use Rattle.model.specs.Script.{clause, header, work_needed, accepted, read}
use Rattle.script.specs.Front.{HeaderIn}
use Rattle.counter.specs.Counter.{cells}

-- ---- a script of these cells alone

-- Behind any header of v variables that is in order, and with slices that are long enough, a script of the cells is accepted, and its records are the clauses.
abbrev pub ReadsBack : ℕ → List (List ℕ) → Type 0
ReadsBack v cs =
    (h : List ℕ)
    → length h ≡ header_cells
    → HeaderIn (h ++ cells cs)
    → (header (h ++ cells cs)).variables ≡ v
    → (work activities out : ℕ)
    → work_needed (header (h ++ cells cs)) ≤ work
    → v ≤ activities
    → length cs ≤ out
    → read (h ++ cells cs) work activities out ≡ accepted (header (h ++ cells cs)) (map clause cs)
