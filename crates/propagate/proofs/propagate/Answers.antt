use Rattle.std.proofs.Common.{arith}
use Rattle.propagate.specs.Loops.{propagating_step, propagating_less, propagating_clash, propagating_end}
use Rattle.propagate.proofs.propagate.Goals as goal

pub returns-in-Some : goal.returns-in-Some
returns-in-Some c = propagating_clash c.args.s.now c.loop-s.s c.loop-s.invariant (omega arith) c.turn.new.s c.in-Some.c c.in-Some.ensures

pub loop-s-smaller : goal.loop-s-smaller
loop-s-smaller c = propagating_less c.args.s.now c.loop-s.s c.loop-s.invariant (omega arith) c.turn.new.s c.in_default.ensures

pub loop-s-preserved : goal.loop-s-preserved
loop-s-preserved c = propagating_step c.args.s.now c.loop-s.s c.loop-s.invariant (omega arith) c.turn.new.s c.in_default.ensures

pub returns : goal.returns
returns c = propagating_end c.args.s.now c.loop-s.s c.loop-s.invariant (omega arith)
