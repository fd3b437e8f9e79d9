use Rattle.ends.specs.Credit.{left}
use Rattle.state.specs.Still.{state_at, config_of}
use Rattle.search.specs.Looping.{Searching}
use Rattle.search.proofs.search.Given as goal

abbrev pub invariant-loop-status : goal.invariant-loop-status
invariant-loop-status l = Searching l.q.assumptions.now l.q.budget l.nof l.before l.fn.x l.n l.x

abbrev pub decreases-loop-status : goal.decreases-loop-status
decreases-loop-status l = left (config_of l.fn.x.state.config) l.q.assumptions.now (state_at l.x.state)
