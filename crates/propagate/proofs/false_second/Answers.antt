use Rattle.std.proofs.Common.{◌≡◌, ◌+◌, ◌-◌, sym, ap, ap₂, ◌∙◌, get_or, set, arith}
use Rattle.store.specs.View.{Clauses, clause_of, lit_set}
use Rattle.store.specs.Cells.{clause_lies}
use Rattle.propagate.specs.View.{put_clause}
use Rattle.propagate.specs.Laws.{second_sum, first_sum, set_twice}
use Rattle.propagate.proofs.false_second.Goals as goal

pub returns-clause-clauses : goal.returns-clause-clauses
returns-clause-clauses c =
    let a = c.args in
    let k = c.requires in
    let s = a.clauses.now in
    let l = clause_of s a.c in
    let e : c.lit-a.result.0 + c.lit-b.result.0 - a.f.0 ≡ get_or l 0 0 + get_or l 1 0 - a.f.0 = ap₂ (λ y z. y + z - a.f.0) c.lit-a.ensures c.lit-b.ensures in
    c.set_lit-2.ensures
    ∙ ap (λ (t : Clauses). lit_set t a.c 1 a.f.0) c.set_lit.ensures
    ∙ set_twice s a.c 0 _ (omega (arith, k.two)) (clause_lies s c.sound.ensures a.c) 1 a.f.0 (omega (arith, k.two))
    ∙ ap (put_clause s a.c) (ap (λ q. set (set l 0 q) 1 a.f.0) e ∙ sym (second_sum a.f.0 l k.one))

pub returns-clause-value : goal.returns-clause-value
returns-clause-value c =
    let a = c.args in
    let k = c.requires in
    ap₂ (λ y z. y + z - a.f.0) c.lit-a.ensures c.lit-b.ensures ∙ first_sum a.f.0 (clause_of a.clauses.now a.c) k.two k.one
