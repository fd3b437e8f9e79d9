use Rattle.std.proofs.Common.{ap, ◌∙◌}
use Rattle.options.specs.Numbers.{phase_number}
use Rattle.state.specs.declared.State.{State}
use Rattle.tour.proofs.Config.{config-gone_back}
use Rattle.statecheck.proofs.swing.Goals as goal

pub returns : goal.returns
returns g c =
    let config = λ (s : State). s.config in
    let n = phase_number c.args.phase in
    ap config c.back-2.ensures ∙ config-gone_back c.back.new.self 0 n ∙ ap config c.back.ensures ∙ config-gone_back c.climb.new.t 1 n ∙ c.climb.ensures
