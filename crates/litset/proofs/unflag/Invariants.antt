use Rattle.std.proofs.Common.{◌≡◌, length}
use Rattle.litset.specs.Laws.{Clearing}
use Rattle.litset.proofs.unflag.Given as goal

abbrev pub invariant-loop-l : goal.invariant-loop-l
invariant-loop-l l = (length l.flags ≡ length l.initial.flags) × Clearing l.flags l.items l.l-index
