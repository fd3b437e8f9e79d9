-- The turns of `lit_redundant` are enough: a literal is pushed when its variable is marked, so the stack and the unmarked variables together lose one
-- with each turn.
use Prim.Native.Nat.{ℕ, ◌+◌}
use Rattle.std.proofs.Math.ListN.{length}
use Rattle.model.specs.Minimise.{Tracing}
use Rattle.learning.specs.Marks.{unseen}

-- what is to be traced, and what may yet be
abbrev pub left : Tracing → ℕ
left a = length a.stack + unseen a.seen
