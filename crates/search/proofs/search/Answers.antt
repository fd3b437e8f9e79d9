use Rattle.search.specs.Looping.{searching_starts, searching_words, searching_less, searching_goes, searching_ends}
use Rattle.search.proofs.search.Goals as goal

pub loop-status-init : goal.loop-status-init
loop-status-init c = searching_starts c.args.q.budget c.args.nof c.args.before c.requires.running

pub turn-requires-clause-few : goal.turn-requires-clause-few
turn-requires-clause-few c = searching_words c.requires.running c.loop-status.invariant c.requires.few

pub returns-in-Some : goal.returns-in-Some
returns-in-Some c = searching_ends c.requires.running c.loop-status.invariant c.in-Some.ensures

pub loop-status-smaller : goal.loop-status-smaller
loop-status-smaller c = searching_less c.requires.running c.loop-status.invariant c.in_default.ensures

pub loop-status-preserved : goal.loop-status-preserved
loop-status-preserved c = searching_goes c.requires.running c.loop-status.invariant c.in_default.ensures
