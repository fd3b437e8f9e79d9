use Prim.Native.Nat.{◌+◌}
use mathlib.Core.Path.{◌∙◌}
use native.Mathlib.Omega.{arith}
use lib.ListN.{length}
use Rattle.counter.proofs.Wrote.{left_step, left_none, fits_first}
use Rattle.counter.proofs.Writing.{left_as, columns_next, columns_end}
use Rattle.counter.proofs.clauses.columns.Goals as goal

pub column-requires-clause-fits : goal.column-requires-clause-fits
column-requires-clause-fits c =
    let l = c.loop-j in
    let a = c.args in
    let next = left_as l.invariant.left (columns_next a.x a.base (a.base + a.k) a.k l.j l.auto.j c.loop-j-test.true) in
    fits_first l.w.at (length l.w.out.now) _ _ next.fits

pub loop-j-preserved : goal.loop-j-preserved
loop-j-preserved c =
    let l = c.loop-j in
    let a = c.args in
    let next = left_as l.invariant.left (columns_next a.x a.base (a.base + a.k) a.k l.j l.auto.j c.loop-j-test.true) in
    record { same = c.column.ensures.same_reference ∙ l.invariant.same; left = left_step next c.column.ensures.wrote }

pub returns-clause-wrote : goal.returns-clause-wrote
returns-clause-wrote c =
    let l = c.loop-j in
    let a = c.args in
    left_none (left_as l.invariant.left (columns_end a.x a.base (a.base + a.k) a.k l.j (omega arith)))
