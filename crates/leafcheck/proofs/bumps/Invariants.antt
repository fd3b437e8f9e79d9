use Rattle.std.proofs.Common.{◌≡◌, length}
use Rattle.leafcheck.proofs.bumps.Given as goal

abbrev pub invariant-loop : goal.invariant-loop
invariant-loop l = length l.act.activities ≡ length l.fn.act.activities
