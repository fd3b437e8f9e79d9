-- `decide` leaves level 0 and the clauses as they are.
use Rattle.model.specs.State.{State}
use Rattle.model.specs.Decide.{Decision, decided, complete, failed}

abbrev pub decision_state : Decision → State
decision_state (decided s) = s
decision_state (complete s) = s
decision_state (failed s final) = s
