use Rattle.std.proofs.Common.{arith}
use Rattle.assign.proofs.Reading.{trail_length}
use Rattle.propagate.specs.Loops.{taken_on}
use Rattle.propagate.proofs.turn.Goals as goal

pub overflow_add-s : goal.overflow_add-s
overflow_add-s c = omega (arith, c.requires.waits, trail_length c.requires.still.formed.vars, c.requires.still.sized.vars)

pub visit-requires-clause-set : goal.visit-requires-clause-set
visit-requires-clause-set c = taken_on c.args.s.now c.requires.waits c.at-p.result.0 c.at-p.ensures
