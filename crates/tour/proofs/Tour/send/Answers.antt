use Rattle.std.proofs.Common.{arith, rules, sym, ◌∙◌, ltb-true, ◌≢◌}
use Rattle.tour.specs.Live.{live_moved}
use Rattle.tour.proofs.Tour.send.Goals as goal

pub invariant_of-self : goal.invariant_of-self
invariant_of-self c =
    let n : c.args.l.0 ≢ c.args.m.0 = search rules in
    let more = ltb-true _ _ (sym c.more.ensures ∙ c.if-more.true) in
    rw c.leave.ensures.holds
    (live_moved c.self.invariant c.args.l.0 c.walk-c.result.passed c.args.m.0 _ (omega (arith, c.if-n-l.false)) (omega (arith, c.if-n-m.false)) n more)
