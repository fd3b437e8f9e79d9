use Rattle.std.specs.Prelude.{◌≤◌, ◌≡◌, length}
use Rattle.std.proofs.Math.Seq.{paste}
use Rattle.cells.proofs.put.Given as goal

abbrev pub invariant-loop-i : goal.invariant-loop-i
invariant-loop-i l = (l.i ≤ length l.from) × (length l.out ≡ length l.initial.out) × (l.out ≡ paste l.initial.out l.at l.from l.i)
