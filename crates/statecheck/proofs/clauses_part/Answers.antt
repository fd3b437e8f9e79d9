use Rattle.std.proofs.Common.{ap, ◌∙◌}
use Rattle.state.specs.declared.State.{State}
use Rattle.tour.proofs.Config.{config-reblocked, config-sent}
use Rattle.statecheck.proofs.clauses_part.Goals as goal

pub returns : goal.returns
returns g c =
    let config = λ (s : State). s.config in
    ap config c.send.ensures ∙ config-sent c.reblock.new.self 3 7 6 ∙ ap config c.reblock.ensures ∙ config-reblocked c.store_some.new.t 3 5 ∙ c.store_some.ensures
