use Rattle.ends.specs.Credit.{credit}
use Rattle.state.specs.Still.{state_at, config_of}
use Rattle.search.specs.Looping.{Solving}
use Rattle.search.proofs.solve_internal.Given as goal

abbrev pub invariant-loop-conflicts : goal.invariant-loop-conflicts
invariant-loop-conflicts l = Solving l.q.assumptions.now l.q.budget l.fn.x l.restarts l.conflicts l.x

abbrev pub decreases-loop-conflicts : goal.decreases-loop-conflicts
decreases-loop-conflicts l = credit (config_of l.fn.x.state.config) (state_at l.x.state)
