use native.Mathlib.Omega.{arith}
use Rattle.smallbooks.proofs.Pick.{here_room, picked_here, picked_out, picking_with, picking_without, picked_both}
use Rattle.smallbooks.proofs.+each_clause.Goals as goal

pub keep-requires : goal.keep-requires
keep-requires t c = rw c.deref.ensures.0 (record { room = here_room c.requires c.if-left-eq0.true; short = omega (arith, c.requires.literals) })

pub returns-then-left-eq0-clause-cells : goal.returns-then-left-eq0-clause-cells
returns-then-left-eq0-clause-cells t c = picked_here c.requires c.if-left-eq0.true (rw c.deref.ensures.0 at c.keep.ensures)

pub returns-then-l-end-clause-cells : goal.returns-then-l-end-clause-cells
returns-then-l-end-clause-cells t c = picked_out c.requires (omega (arith, c.if-left-eq0.false)) c.if-l-end.true

pub each_clause-requires : goal.each_clause-requires
each_clause-requires t c =
    (omega (arith, c.decreases, c.requires.from, c.if-l-end.false), picking_with c.requires (omega (arith, c.if-left-eq0.false)) (omega (arith, c.requires.from, c.if-l-end.false)) c.push.ensures.items)

pub each_clause-requires-2 : goal.each_clause-requires-2
each_clause-requires-2 t c =
    (omega (arith, c.decreases, c.requires.from, c.if-l-end.false), picking_without c.requires (omega (arith, c.if-left-eq0.false)) (omega (arith, c.requires.from, c.if-l-end.false)) c.push.ensures.items c.pop.ensures.rest c.each_clause.ensures.kept c.each_clause.ensures.cells)

pub returns-clause-cells : goal.returns-clause-cells
returns-clause-cells t c =
    picked_both c.requires (omega (arith, c.if-left-eq0.false)) (omega (arith, c.requires.from, c.if-l-end.false)) c.push.ensures.items c.pop.ensures.rest c.each_clause.ensures.kept c.each_clause.ensures.cells c.each_clause-2.ensures.cells
