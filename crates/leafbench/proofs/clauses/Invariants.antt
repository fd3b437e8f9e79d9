use Rattle.std.proofs.Common.{◌≤◌}
use Rattle.leafbench.specs.Loops.{SizedRow}
use Rattle.leafbench.proofs.clauses.Given as goal

abbrev pub invariant-loop-i : goal.invariant-loop-i
invariant-loop-i l = (l.i ≤ 32) × SizedRow l.fn.t l.t l.i
