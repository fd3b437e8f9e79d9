use Prim.Native.Nat.{◌-◌}
use mathlib.Core.Path.{◌≡◌}
use native.Mathlib.Omega.{arith}
use lib.ListN.{length, take, drop}
use Rattle.std.proofs.Common.{take_all, length-drop}
use Rattle.counter.specs.Counter.{zeros}
use Rattle.counter.proofs.Wrote.{left_all, left_step, fits_first}
use Rattle.counter.proofs.Writing.{left_as, left_one, room_one, counter_parts}
use Rattle.counter.proofs.clauses.counter.Goals as goal

pub put-requires-clause-c_in_bounds : goal.put-requires-clause-c_in_bounds
put-requires-clause-c_in_bounds c =
    let a = c.args in
    let start = left_as (left_all a.w.now.out.now a.w.now.at _ c.requires.fits) (counter_parts a.k a.first a.literals.now (omega arith)) in
    room_one a.w.now.at (length a.w.now.out.now) _ _ start.fits

pub zeros-requires-clause-fits : goal.zeros-requires-clause-fits
zeros-requires-clause-fits c =
    let a = c.args in
    let start = left_as (left_all a.w.now.out.now a.w.now.at _ c.requires.fits) (counter_parts a.k a.first a.literals.now (omega arith)) in
    let one = left_one start (rw (c.negate.ensures, c.helper.ensures) at c.put.ensures.wrote) in
    fits_first _ _ (zeros a.first 0 (a.k - 1)) _ one.fits

pub rows-requires-clause-fits : goal.rows-requires-clause-fits
rows-requires-clause-fits c =
    let a = c.args in
    let ls = a.literals.now in
    let rest : take (length ls - 1) (drop 1 ls) ≡ drop 1 ls = take_all (length ls - 1) (drop 1 ls) (omega (arith, length-drop 1 ls)) in
    let start = left_as (left_all a.w.now.out.now a.w.now.at _ c.requires.fits) (counter_parts a.k a.first ls (omega arith)) in
    let one = left_one start (rw (c.negate.ensures, c.helper.ensures) at c.put.ensures.wrote) in
    rw rest (left_step {one = zeros a.first 0 (a.k - 1)} one c.zeros.ensures.wrote).fits

pub returns-clause-wrote : goal.returns-clause-wrote
returns-clause-wrote c =
    let a = c.args in
    let ls = a.literals.now in
    let rest : take (length ls - 1) (drop 1 ls) ≡ drop 1 ls = take_all (length ls - 1) (drop 1 ls) (omega (arith, length-drop 1 ls)) in
    let start = left_as (left_all a.w.now.out.now a.w.now.at _ c.requires.fits) (counter_parts a.k a.first ls (omega arith)) in
    let one = left_one start (rw (c.negate.ensures, c.helper.ensures) at c.put.ensures.wrote) in
    (left_step {one = zeros a.first 0 (a.k - 1)} one c.zeros.ensures.wrote).rest _ _ (rw rest at c.rows.ensures.wrote)
