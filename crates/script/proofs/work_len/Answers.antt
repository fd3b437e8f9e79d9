use native.Mathlib.Omega.{arith}
use Rattle.model.specs.Script.{work_needed}
use Rattle.script.proofs.work_len.Goals as goal

pub returns : goal.returns
unfolding work_needed
returns c = omega arith
