use Rattle.std.proofs.Common.{arith}
use Rattle.script.specs.Needs.{work_is}
use Rattle.scriptcheck.proofs.main.Goals as goal

pub prove-unreachable-requires : goal.prove-unreachable-requires
prove-unreachable-requires c = c.if-prove.true (omega (arith, c.work_len-cells.ensures, work_is 2 8 64))
