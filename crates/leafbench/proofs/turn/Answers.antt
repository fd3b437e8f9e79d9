use Rattle.std.proofs.Common.{ap, ◌∙◌, length}
use Rattle.state.specs.declared.State.{State}
use Rattle.tour.specs.SizedLive.{live}
use Rattle.leafbench.specs.Loops.{turned, turn_put, turn_config}
use Rattle.leafbench.proofs.turn.Goals as goal

pub returns-clause-config : goal.returns-clause-config
returns-clause-config c = turn_config c.args.t.now c.args.order.now (live c.state.ensures.live) c.requires c.open.ensures c.fill.ensures c.back.ensures

pub returns-clause-none : goal.returns-clause-none
returns-clause-none c = turned c.args.t.now c.args.order.now (live c.state.ensures.live) c.requires c.open.ensures c.fill.ensures c.back.ensures

pub returns-clause-value : goal.returns-clause-value
returns-clause-value c =
    c.assigned-n.ensures ∙ ap (λ (s : State). length s.trail.vars.trail) c.state.ensures.is ∙ turn_put c.args.t.now c.args.order.now (live c.state.ensures.live) c.requires c.open.ensures c.fill.ensures c.back.ensures
