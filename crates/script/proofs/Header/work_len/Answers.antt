use Rattle.model.specs.Script.{work_needed}
use Rattle.script.proofs.Header.work_len.Goals as goal

pub returns : goal.returns
unfolding work_needed
returns c = c.work_len.ensures
