-- A decision keeps the clauses covered.
use Rattle.std.specs.Prelude.{◌≡◌, length}
use Rattle.model.specs.State.{State}
use Rattle.model.specs.Script.{Config}
use Rattle.model.specs.Decide.{Decision, decided, complete, failed}
use Rattle.watching.specs.Watching.{Watching}

-- where nothing is decided, all stays propagated
pub record Resting (cfg : Config) (s : State) : Type 0 where
  pub watching : Watching cfg s
  pub rest : s.qhead ≡ length s.vars.trail

abbrev pub Decides : Config → Decision → Type 0
Decides cfg (decided s) = Watching cfg s
Decides cfg (complete s) = Resting cfg s
Decides cfg (failed s final) = Resting cfg s
