use native.Mathlib.Omega.{arith}
use lib.ListN.{length}
use Rattle.counter.proofs.Wrote.{wrote_none}
use Rattle.counter.proofs.Writing.{fits_as}
use Rattle.counter.proofs.Answers.{at_most_none, at_most_some, at_most-all}
use Rattle.counter.proofs.write.Goals as goal

pub negations-requires : goal.negations-requires
negations-requires c =
    let a = c.args in
    fits_as a.w.now.at (length a.w.now.out.now) c.requires.fits (at_most_none a.k a.first a.literals.now c.if-k-eq0.true)

pub counter-requires-clause-fits : goal.counter-requires-clause-fits
counter-requires-clause-fits c =
    let a = c.args in
    fits_as a.w.now.at (length a.w.now.out.now) c.requires.fits (at_most_some a.k a.first a.literals.now (omega arith) (omega arith))

pub returns-then-k-eq0-clause-wrote : goal.returns-then-k-eq0-clause-wrote
returns-then-k-eq0-clause-wrote c =
    let a = c.args in
    rw (at_most_none a.k a.first a.literals.now c.if-k-eq0.true) c.negations.ensures.wrote

pub returns-then-k-literals-clause-wrote : goal.returns-then-k-literals-clause-wrote
returns-then-k-literals-clause-wrote c =
    let a = c.args in
    rw (at_most_some a.k a.first a.literals.now (omega arith) (omega arith)) c.counter.ensures.wrote

pub returns-else-k-literals-clause-wrote : goal.returns-else-k-literals-clause-wrote
returns-else-k-literals-clause-wrote c =
    let a = c.args in
    rw (at_most-all a.k a.first a.literals.now (omega arith) (omega arith)) (wrote_none a.w.now.out.now a.w.now.at)
