use Rattle.std.proofs.Common.{rules, ◌≡◌, ◌≢◌}
use Rattle.clause.specs.Cells.{cell_of}
use Rattle.decide.specs.Deciding.{assuming_starts, assuming_var, assuming_range, assuming_turns, assuming_stops, assuming_bound}
use Rattle.decide.proofs.decide.Goals as goal

pub loop-k-init : goal.loop-k-init
loop-k-init c = assuming_starts c.requires.still c.requires.levels c.decision_level-k.ensures

pub lit_value-x-requires : goal.lit_value-x-requires
lit_value-x-requires c = assuming_var c.loop-k.invariant c.loop-k-test.true c.requires.assumable.1

pub take_up-requires-clause-p_bound : goal.take_up-requires-clause-p_bound
take_up-requires-clause-p_bound c = assuming_range c.loop-k.invariant c.loop-k-test.true c.requires.assumable.1

pub returns-then-ne : goal.returns-then-ne
returns-then-ne c =
    let z : cell_of c.lit_value-x.result ≢ 0 = search (rules, c.if-ne.ensures) in
    assuming_stops c.loop-k.invariant c.loop-k-test.true c.lit_value-x.ensures z c.take_up.ensures

pub loop-k-preserved : goal.loop-k-preserved
loop-k-preserved c =
    let z : cell_of c.lit_value-x.result ≡ 0 = search (rules, c.if-ne.ensures) in
    rw c.new_decision_level.ensures (assuming_turns c.loop-k.invariant c.loop-k-test.true c.lit_value-x.ensures z)

pub decide_free-requires-clause-level : goal.decide_free-requires-clause-level
decide_free-requires-clause-level c = assuming_bound c.loop-k.invariant c.requires.assumable.0 c.loop-k-test.false
