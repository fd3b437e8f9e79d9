use Rattle.script.specs.Judging.{done, pass, stop}
use Rattle.script.proofs.check.Goals as goal

pub returns-then-holds : goal.returns-then-holds
returns-then-holds c = pass c.if-holds.true done

pub returns : goal.returns
returns c = stop c.if-holds.false
