use mathlib.Core.Path.{sym}
use native.Mathlib.Omega.{arith}
use Rattle.counter.proofs.Ranges.{helpers_some, helpers_none}
use Rattle.counter.proofs.judge.helpers.Goals as goal

pub returns-then-k-n : goal.returns-then-k-n
returns-then-k-n c = sym (helpers_some c.args.k c.args.n (omega arith))

pub returns-else-k-n : goal.returns-else-k-n
returns-else-k-n c = sym (helpers_none c.args.k c.args.n (omega arith))
