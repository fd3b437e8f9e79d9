use mathlib.Core.Path.{◌∙◌}
use borrow.Author.Tests.{eq-eqb}
use Rattle.counter.proofs.JudgeLaws.{fit_unused, fit_used}
use Rattle.counter.proofs.judge.helpers_fit.Goals as goal

pub returns-then-used-eq0 : goal.returns-then-used-eq0
returns-then-used-eq0 c = eq-eqb c.args.used 0 c.if-used-eq0.true ∙ (fit_unused c.args.v c.args.first c.args.used c.if-used-eq0.true)

pub returns-else-used-eq0 : goal.returns-else-used-eq0
returns-else-used-eq0 c = fit_used c.args.v c.args.first c.args.used c.if-used-eq0.false
