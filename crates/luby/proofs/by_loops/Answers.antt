use mathlib.Core.Path.{◌∙◌}
use native.Mathlib.Omega.{arith}
use Rattle.luby.specs.Laws.{exponent_lt, shifted}
use Rattle.luby.proofs.by_loops.Goals as goal

pub overflow_shl-result : goal.overflow_shl-result
overflow_shl-result c = omega (arith, exponent_lt c.args.x c.requires, c.exponent.ensures ∙ c.holding.ensures.finds)

pub returns : goal.returns
returns c = shifted c.args.x c.exponent.result c.requires (c.exponent.ensures ∙ c.holding.ensures.finds)
