use Rattle.std.proofs.Common.{sym, ◌∙◌, arith, lit<}
use Rattle.smallbooks.proofs.Pick.{kept_room, kept_joins, left_out}
use Rattle.smallbooks.proofs.keep.Goals as goal

pub put_clause-requires : goal.put_clause-requires
put_clause-requires c = (lit< tt, (kept_room c.args.clause.now c.args.table.now.items (sym c.apart.ensures ∙ c.if-apart.true) c.requires.room, omega (arith, c.requires.short)))

pub returns-then-apart : goal.returns-then-apart
returns-then-apart c = kept_joins c.args.clause.now c.args.table.now.items (sym c.apart.ensures ∙ c.if-apart.true) c.put_clause.ensures

pub returns-else-apart : goal.returns-else-apart
returns-else-apart c = left_out c.args.clause.now c.args.table.now.items (sym c.apart.ensures ∙ c.if-apart.false)
