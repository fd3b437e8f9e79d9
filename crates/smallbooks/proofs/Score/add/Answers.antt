use Rattle.smallbooks.proofs.ScoreLaws.{more_greater, more_other}
use Rattle.smallbooks.proofs.Score.add.Goals as goal

pub returns-then-self-conflicts : goal.returns-then-self-conflicts
returns-then-self-conflicts c = more_greater c.args.self.now c.args.conflicts c.if-self-conflicts.true

pub returns-else-self-conflicts : goal.returns-else-self-conflicts
returns-else-self-conflicts c = more_other c.args.self.now c.args.conflicts c.if-self-conflicts.false
