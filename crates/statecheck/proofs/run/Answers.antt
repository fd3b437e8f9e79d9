use Rattle.std.proofs.Common.{ap, ◌∙◌}
use Rattle.state.specs.declared.State.{State}
use Rattle.tour.specs.Steps.{finished}
use Rattle.tour.proofs.Config.{config-finished, config-unfinished}
use Rattle.statecheck.proofs.run.Goals as goal

pub returns : goal.returns
returns g c =
    let s = c.swing-3.new.t in
    let a = finished s 5 in
    let b = finished a 0 in
    ap (λ (s : State). s.config) c.final_clause.ensures ∙ config-unfinished (finished b 5) ∙ config-finished b 5 ∙ config-finished a 0 ∙ config-finished s 5
    ∙ c.swing-3.ensures ∙ c.swing-2.ensures ∙ c.swing.ensures ∙ c.clauses_part.ensures ∙ c.begin-t.ensures.config
