use native.Mathlib.Omega.{arith}
use Rattle.counter.proofs.JudgeLaws.{len_many, len_none, len_all, len_some}
use Rattle.counter.proofs.len.Goals as goal

pub returns-then-n-gt-MAX_COUNT : goal.returns-then-n-gt-MAX_COUNT
returns-then-n-gt-MAX_COUNT c = len_many c.args.n c.args.k c.if-n-gt-MAX_COUNT.true

pub returns-then-k-eq0 : goal.returns-then-k-eq0
returns-then-k-eq0 c = rw c.from.ensures (len_none c.args.n c.args.k (omega arith) c.if-k-eq0.true)

pub returns-then-n-k : goal.returns-then-n-k
returns-then-n-k c = len_all c.args.n c.args.k (omega arith) c.if-k-eq0.false c.if-n-k.true

pub returns : goal.returns
returns c = rw (c.from-2.ensures, c.from-3.ensures, c.from-4.ensures) (len_some c.args.n c.args.k (omega arith) c.if-k-eq0.false (omega arith))
