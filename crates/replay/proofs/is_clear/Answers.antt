use Rattle.std.proofs.Common.{sym, ◌∙◌}
use Rattle.replay.specs.CellLaws.{and_first, and_next, clear_parts, clear_long}
use Rattle.replay.proofs.is_clear.Goals as goal

pub returns-then-s-n : goal.returns-then-s-n
returns-then-s-n g c = sym (clear_long g.T.Cell.like c.args.s.now c.args.n (g.T.Cell.of 0) _ c.if-s-n.true)

pub returns-then-is_zero : goal.returns-then-is_zero
returns-then-is_zero g c =
    and_next _ _ c.is_noise.result (sym c.is_zero.ensures ∙ c.if-is_zero.true) c.is_noise.ensures
    ∙ sym (clear_parts g.T.Cell.like c.args.s.now c.args.n (g.T.Cell.of 0) _ c.if-s-n.false)

pub returns-else-is_zero : goal.returns-else-is_zero
returns-else-is_zero g c =
    c.if-is_zero.false ∙ and_first _ _ (sym c.is_zero.ensures ∙ c.if-is_zero.false)
    ∙ sym (clear_parts g.T.Cell.like c.args.s.now c.args.n (g.T.Cell.of 0) _ c.if-s-n.false)
