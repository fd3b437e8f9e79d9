use Rattle.intake.specs.Storing.{added}
use Rattle.intake.proofs.store_buffer.Goals as goal

pub returns : goal.returns
returns c = added c.args.s.now c.requires (rw c.push_buffer.ensures at c.store_pushed.ensures)
