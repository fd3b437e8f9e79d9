use Rattle.std.proofs.Common.{rules, ◌≡◌, ◌≢◌, sym, ◌∙◌}
use Rattle.clause.specs.Cells.{cell_of}
use Rattle.decide.specs.Deciding.{falls_on, falls, opens}
use Rattle.decide.proofs.take_up.Goals as goal

pub analyze_final-requires-clause-set : goal.analyze_final-requires-clause-set
analyze_final-requires-clause-set c =
    let z : cell_of c.args.x ≡ 1 = search (rules, c.if-eq.ensures) in
    rw c.negate.ensures (falls_on c.requires.still c.requires.p_bound (sym c.requires.x_value.0 ∙ z))

pub returns-then-eq : goal.returns-then-eq
returns-then-eq c =
    let z : cell_of c.args.x ≡ 1 = search (rules, c.if-eq.ensures) in
    falls c.requires.still c.requires.p_bound (sym c.requires.x_value.0 ∙ z) (rw c.negate.ensures at c.analyze_final.ensures)

pub returns : goal.returns
returns c =
    let z : cell_of c.args.x ≢ 1 = search (rules, c.if-eq.ensures) in
    opens c.requires.still c.requires.p_bound (λ e. z (c.requires.x_value.0 ∙ e)) c.open_level.ensures.has c.open_level.ensures.beside c.open_level.ensures.stored
