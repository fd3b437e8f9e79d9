use lib.ListN.{length}
use Rattle.smallbooks.proofs.Walk.+each_set.Given as goal

abbrev pub decreases-each_set : goal.decreases-each_set
decreases-each_set l = length l.listed.now
