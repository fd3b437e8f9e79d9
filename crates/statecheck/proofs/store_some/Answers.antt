use Rattle.std.proofs.Common.{ap, ◌∙◌}
use Rattle.state.specs.declared.State.{State}
use Rattle.tour.proofs.Config.{config-added}
use Rattle.statecheck.proofs.store_some.Goals as goal

pub returns : goal.returns
returns g c =
    let config = λ (s : State). s.config in
    ap config c.add-3.ensures ∙ config-added _ 8 2 6 ∙ ap config c.add-2.ensures ∙ config-added _ 1 2 6 ∙ ap config c.add.ensures ∙ config-added _ 0 2 5
