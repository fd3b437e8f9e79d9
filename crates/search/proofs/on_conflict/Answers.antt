use Rattle.std.proofs.Common.{arith, sym, ◌∙◌}
use Rattle.search.specs.Turning.{refutes, backable, unstored, learns, full_of, back_of}
use Rattle.search.proofs.on_conflict.Goals as goal

pub returns-then-decision_level-eq0 : goal.returns-then-decision_level-eq0
returns-then-decision_level-eq0 c = refutes c.args.x.now c.args.n.now c.args.confl c.requires.conflicting (omega (arith, c.decision_level.ensures, c.if-decision_level-eq0.true))

pub add_learnt_and_backtrack-requires : goal.add_learnt_and_backtrack-requires
add_learnt_and_backtrack-requires c =
    backable c.args.x.now c.args.n.now c.args.confl c.requires.conflicting (omega (arith, c.decision_level.ensures, c.if-decision_level-eq0.false)) c.analyze-level.ensures

pub returns-then-is_err : goal.returns-then-is_err
returns-then-is_err c =
    unstored c.args.x.now c.args.n.now c.args.confl c.requires.conflicting (omega (arith, c.decision_level.ensures, c.if-decision_level-eq0.false)) c.analyze-level.ensures
    (full_of c.add_learnt_and_backtrack.result (sym c.is_err.ensures.value ∙ c.if-is_err.true) c.add_learnt_and_backtrack.ensures)

pub returns : goal.returns
returns c =
    learns c.args.x.now c.args.n.now c.args.confl c.requires.conflicting (omega (arith, c.decision_level.ensures, c.if-decision_level-eq0.false)) c.analyze-level.ensures
    (back_of c.add_learnt_and_backtrack.result (sym c.is_err.ensures.value ∙ c.if-is_err.false) c.add_learnt_and_backtrack.ensures) c.decay.ensures
