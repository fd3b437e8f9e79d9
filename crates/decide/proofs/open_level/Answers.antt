use Rattle.decide.specs.Deciding.{open_var, open_room, open_has}
use Rattle.decide.proofs.open_level.Goals as goal

pub enqueue-requires-clause-var : goal.enqueue-requires-clause-var
enqueue-requires-clause-var c = rw c.new_decision_level.ensures (open_var c.requires.still c.requires.free)

pub enqueue-requires-clause-room : goal.enqueue-requires-clause-room
enqueue-requires-clause-room c = rw c.new_decision_level.ensures (open_room c.requires.still c.requires.free)

pub returns-clause-has : goal.returns-clause-has
returns-clause-has c = rw (c.enqueue.ensures, c.new_decision_level.ensures) (open_has c.requires.still c.requires.free)
