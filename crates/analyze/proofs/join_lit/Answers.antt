use Rattle.std.proofs.Common.{◌≡◌, arith, sym, ◌∙◌}
use Rattle.model.specs.Lit.{var}
use Rattle.analyze.specs.Joining.{lit-var, joinable_marks, count_fits, counts, note_fits, notes}
use Rattle.analyze.proofs.join_lit.Goals as goal

pub set-requires : goal.set-requires
set-requires c = omega (arith, c.var-v.ensures, lit-var c.requires.joinable, joinable_marks c.requires.joinable)

pub bump-requires : goal.bump-requires
bump-requires c = omega (arith, c.var-v.ensures, lit-var c.requires.joinable, c.requires.joinable.sized.activity)

pub level-requires : goal.level-requires
level-requires c = omega (arith, c.var-v.ensures, lit-var c.requires.joinable)

pub overflow_add-result : goal.overflow_add-result
overflow_add-result c =
    let v : c.var-v.result.0 ≡ var c.args.q.0 = c.var-v.ensures in
    omega (arith, count_fits c.requires.joinable c.requires.new ((rw v at (sym c.level.ensures)) ∙ c.if-level-decision_level.true ∙ c.decision_level.ensures))

pub returns-then-level-decision_level : goal.returns-then-level-decision_level
returns-then-level-decision_level c =
    let v : c.var-v.result.0 ≡ var c.args.q.0 = c.var-v.ensures in
    counts c.requires.joinable c.requires.new ((rw v at (sym c.level.ensures)) ∙ c.if-level-decision_level.true ∙ c.decision_level.ensures)
    (rw v at c.set.ensures) (rw v at c.bump.ensures)

pub push-requires : goal.push-requires
push-requires c =
    let v : c.var-v.result.0 ≡ var c.args.q.0 = c.var-v.ensures in
    note_fits c.requires.joinable c.requires.new (λ e. c.if-level-decision_level.false ((rw v at c.level.ensures) ∙ e ∙ sym c.decision_level.ensures))

pub returns : goal.returns
returns c =
    let v : c.var-v.result.0 ≡ var c.args.q.0 = c.var-v.ensures in
    notes c.requires.joinable c.requires.new (λ e. c.if-level-decision_level.false ((rw v at c.level.ensures) ∙ e ∙ sym c.decision_level.ensures))
    (rw v at c.set.ensures) c.push.ensures (rw v at c.bump.ensures)
