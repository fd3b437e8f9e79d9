use Rattle.std.proofs.Common.{sym}
use Rattle.options.specs.Numbers.{phase_number}
use Rattle.state.specs.Back.{cut_stays, cut_goes}
use Rattle.state.proofs.State.back_to.Goals as goal

pub returns-then-decision_level-level : goal.returns-then-decision_level-level
returns-then-decision_level-level c =
    sym (cut_stays (phase_number c.args.phase) c.args.self.now c.args.level (rw c.decision_level.ensures at c.if-decision_level-level.true))

pub returns : goal.returns
returns c =
    rw (c.assigned-self.ensures, c.cancel_until.ensures)
    (sym (cut_goes (phase_number c.args.phase) c.args.self.now c.args.level (rw c.decision_level.ensures at c.if-decision_level-level.false)))
