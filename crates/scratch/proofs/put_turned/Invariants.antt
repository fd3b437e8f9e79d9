use Rattle.std.specs.Prelude.{◌≤◌, ◌≡◌, length, reverse}
use Rattle.std.proofs.Math.Seq.{paste}
use Rattle.scratch.proofs.put_turned.Given as goal

abbrev pub invariant-loop-i : goal.invariant-loop-i
invariant-loop-i l = (l.i ≤ length l.part) × (length l.cells ≡ length l.initial.cells) × (l.cells ≡ paste l.initial.cells 0 (reverse l.part) l.i)
