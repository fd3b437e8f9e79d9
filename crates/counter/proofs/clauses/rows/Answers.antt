use Prim.Native.Nat.{◌-◌}
use mathlib.Core.Path.{◌≡◌, ◌∙◌}
use native.Mathlib.Omega.{arith}
use lib.ListN.{length, take}
use Rattle.std.proofs.Common.{length-take-le}
use Rattle.std.proofs.lemmas.List.{get_or-take}
use Rattle.counter.proofs.Wrote.{left_step, fits_first}
use Rattle.counter.proofs.Writing.{left_as, rows_next, rows_last, one_row, row_less}
use Rattle.counter.proofs.clauses.rows.Goals as goal

pub next_row-requires-clause-fits : goal.next_row-requires-clause-fits
next_row-requires-clause-fits c =
    let l = c.loop-l in
    let a = c.args in
    let ls = a.literals.now in
    let n : length (take (length ls - 1) ls) ≡ length ls - 1 = length-take-le (length ls - 1) ls (omega arith) in
    let next = left_as l.invariant.left (rows_next a.k l.base ls l.l-index _ (omega arith) (get_or-take (length ls - 1) ls l.l-index 0 (omega arith))) in
    fits_first l.w.at (length l.w.out.now) _ _ next.fits

pub loop-l-preserved : goal.loop-l-preserved
loop-l-preserved c =
    let l = c.loop-l in
    let a = c.args in
    let ls = a.literals.now in
    let n : length (take (length ls - 1) ls) ≡ length ls - 1 = length-take-le (length ls - 1) ls (omega arith) in
    let next = left_as l.invariant.left (rows_next a.k l.base ls l.l-index _ (omega arith) (get_or-take (length ls - 1) ls l.l-index 0 (omega arith))) in
    record {
      same = c.next_row.ensures.same_reference ∙ l.invariant.same;
      left = left_step next c.next_row.ensures.wrote;
      helpers = omega (arith, one_row (length ls - l.l-index) a.k (omega arith), row_less (length ls) l.l-index a.k);
    }

pub stop-requires-clause-fits : goal.stop-requires-clause-fits
stop-requires-clause-fits c =
    let l = c.loop-l in
    let a = c.args in
    let ls = a.literals.now in
    let n : length (take (length ls - 1) ls) ≡ length ls - 1 = length-take-le (length ls - 1) ls (omega arith) in
    (left_as l.invariant.left (rows_last a.k l.base ls l.l-index (length ls - 1) (omega arith) (omega arith))).fits

pub returns-clause-wrote : goal.returns-clause-wrote
returns-clause-wrote c =
    let l = c.loop-l in
    let a = c.args in
    let ls = a.literals.now in
    let n : length (take (length ls - 1) ls) ≡ length ls - 1 = length-take-le (length ls - 1) ls (omega arith) in
    (left_as l.invariant.left (rows_last a.k l.base ls l.l-index (length ls - 1) (omega arith) (omega arith))).rest _ _ c.stop.ensures.wrote
