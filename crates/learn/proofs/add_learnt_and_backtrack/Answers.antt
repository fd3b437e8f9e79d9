use Rattle.std.proofs.Common.{sym, ◌∙◌}
use Rattle.learn.specs.Adding.{unit_asks, backs_unit, clause_asks, backs_stored, backs_none}
use Rattle.learn.proofs.add_learnt_and_backtrack.Goals as goal

pub learn_unit-requires : goal.learn_unit-requires
learn_unit-requires c = unit_asks c.args.s.now c.args.level c.requires (sym c.len-n.ensures ∙ c.if-n-eq1.true)

pub returns-then-n-eq1 : goal.returns-then-n-eq1
returns-then-n-eq1 c =
    backs_unit c.args.s.now c.args.level c.requires (sym c.len-n.ensures ∙ c.if-n-eq1.true) _ c.learn_unit.ensures.has c.learn_unit.ensures.beside

pub returns-then-not-has_room : goal.returns-then-not-has_room
returns-then-not-has_room c =
    backs_none c.args.s.now c.args.level c.requires (λ e. c.if-n-eq1.false (c.len-n.ensures ∙ e)) _ (rw c.len-n.ensures at c.has_room.ensures) c.if-not-has_room.true

pub learn_clause-requires : goal.learn_clause-requires
learn_clause-requires c =
    clause_asks c.args.s.now c.args.level c.requires (λ e. c.if-n-eq1.false (c.len-n.ensures ∙ e)) _ (rw c.len-n.ensures at c.has_room.ensures) c.if-not-has_room.false

pub returns : goal.returns
returns c =
    backs_stored c.args.s.now c.args.level c.requires (λ e. c.if-n-eq1.false (c.len-n.ensures ∙ e)) _ (rw c.len-n.ensures at c.has_room.ensures) c.if-not-has_room.false _ c.learn_clause.ensures.has c.learn_clause.ensures.beside
