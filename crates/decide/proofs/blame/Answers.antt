use Rattle.std.proofs.Common.{arith}
use Rattle.decide.specs.Blaming.{blaming_down, blaming_asks, blaming_turns, blaming_ends}
use Rattle.decide.proofs.blame.Goals as goal

pub pass_back-requires : goal.pass_back-requires
pass_back-requires c = blaming_asks c.requires (blaming_down c.loop-i.invariant c.loop-i-test.true) (omega (arith, c.loop-i-test.true)) c.at.ensures

pub loop-i-preserved : goal.loop-i-preserved
loop-i-preserved c =
    blaming_turns c.requires (blaming_down c.loop-i.invariant c.loop-i-test.true) (omega (arith, c.loop-i-test.true)) c.at.ensures c.pass_back.ensures

pub returns : goal.returns
returns c = blaming_ends c.requires c.loop-i.invariant c.loop-i-test.false
