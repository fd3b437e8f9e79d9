use Rattle.std.specs.Prelude.{ℕ, ◌≡◌}
use Rattle.std.proofs.Common.{ap, ◌∙◌}
use Rattle.model.specs.Lit.{no_reason}
use Rattle.state.specs.declared.State.{State}
use Rattle.tour.specs.Steps.{opened, placed}
use Rattle.tour.proofs.Config.{config-opened, config-placed}
use Rattle.statecheck.proofs.climb.Goals as goal

-- a level, and its first literal
config-decided : (s r : State) (p : ℕ) → r ≡ placed (opened s) p no_reason → r.config ≡ s.config
config-decided s r p e = ap (λ (t : State). t.config) e ∙ config-placed (opened s) p no_reason ∙ config-opened s

pub returns : goal.returns
returns c =
    let s = c.args.t.now in
    let a = c.decide.new.t in
    let b = c.decide-2.new.t in
    let d = c.decide-3.new.t in
    ap (λ (s : State). s.config) c.put.ensures ∙ config-placed d 6 1
    ∙ config-decided b d 4 c.decide-3.ensures ∙ config-decided a b 2 c.decide-2.ensures ∙ config-decided s a 1 c.decide.ensures
