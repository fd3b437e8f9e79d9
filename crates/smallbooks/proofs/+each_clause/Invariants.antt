use Prim.Native.Nat.{◌-◌}
use Rattle.smallbooks.proofs.+each_clause.Given as goal

abbrev pub decreases-each_clause : goal.decreases-each_clause
decreases-each_clause l = l.end - l.l
