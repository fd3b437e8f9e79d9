use Rattle.std.proofs.Common.{◌≡◌, ◌/◌}
use Rattle.store.specs.View.{lit_set}
use Rattle.store.specs.Cells.{clause_lies}
use Rattle.propagate.specs.View.{exchanged}
use Rattle.propagate.specs.Laws.{exchange}
use Rattle.propagate.proofs.go.Goals as goal

pub returns-clause-clauses : goal.returns-clause-clauses
returns-clause-clauses c =
    let a = c.args in
    let m = c.requires.movable in
    let s = a.clauses.now in
    let x = a.at.node in
    let e : lit_set (lit_set s (x / 2) 1 c.lit-l.result.0) (x / 2) a.k c.negate.result.0 ≡ exchanged s x a.at.list.0 a.k =
    exchange s x a.at.list.0 a.k c.lit-l.result.0 c.negate.result.0 (clause_lies s c.sound.ensures (x / 2)) m.inside m.two (rw c.clause-c.ensures at c.lit-l.ensures) c.negate.ensures
    in
    rw (c.set_lit-2.ensures, c.set_lit.ensures, c.clause-c.ensures) e
