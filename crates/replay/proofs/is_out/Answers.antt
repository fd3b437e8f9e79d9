use Rattle.std.proofs.Common.{sym, ◌∙◌}
use Rattle.replay.specs.CellLaws.{and_first, and_next, begins}
use Rattle.replay.proofs.is_out.Goals as goal

pub returns-then-starts_with : goal.returns-then-starts_with
returns-then-starts_with c =
    and_next _ _ c.is_noise.result (sym c.starts_with.ensures.value ∙ c.if-starts_with.true) c.is_noise.ensures ∙ sym (begins c.args.s.now c.args.first.now _)

pub returns-else-starts_with : goal.returns-else-starts_with
returns-else-starts_with c =
    c.if-starts_with.false ∙ and_first _ _ (sym c.starts_with.ensures.value ∙ c.if-starts_with.false) ∙ sym (begins c.args.s.now c.args.first.now _)
