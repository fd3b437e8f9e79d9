use Rattle.std.proofs.Common.{◌≡◌, ◌/◌, ℕ, List, sym, ap, subst, ◌∙◌, get_or}
use Rattle.std.specs.Prelude.{Some as some}
use Rattle.model.specs.Lit.{neg, is_true}
use Rattle.model.specs.Propagate.{false_second}
use Rattle.store.specs.View.{Clauses, clause_of}
use Rattle.propagate.specs.View.{put_clause, with_blocks, at_node, Looks, Looked}
use Rattle.propagate.specs.Walking.{node_low, blocker_var, paired}
use Rattle.propagate.specs.Outcome.{with_seconded, looked_blocked, clause_there, lookable_there, looked}
use Rattle.propagate.proofs.look.Goals as goal

pub blocker-requires : goal.blocker-requires
blocker-requires c =
    let a = c.args in
    let p = c.requires in
    rw p.at.node (node_low a.s.now a.at.list.0 a.at.cursor p.walks p.at.more)

pub is_true-requires : goal.is_true-requires
is_true-requires c =
    let a = c.args in
    let p = c.requires in
    rw (c.blocker.ensures, p.at.node) (blocker_var a.s.now a.at.list.0 a.at.cursor p.walks p.at.more)

pub returns-then-is_true : goal.returns-then-is_true
returns-then-is_true c =
    let a = c.args in
    let p = c.requires in
    let s = a.s.now in
    subst (λ (y : ℕ). Looked s s a.at.list.0 a.at.cursor y (some c.stay.result)) (sym p.at.node)
    (looked_blocked s a.at.list.0 a.at.cursor p.walks p.at.more c.stay.result
    (ap (λ y. is_true s.trail.vars.values (get_or s.watches.blockers y 0)) (sym p.at.node) ∙ ap (is_true s.trail.vars.values) (sym c.blocker.ensures) ∙ sym c.is_true.ensures ∙ c.if-is_true.true)
    c.stay.ensures.0 c.stay.ensures.1)

pub false_second-q-requires : goal.false_second-q-requires
false_second-q-requires c =
    let a = c.args in
    let p = c.requires in
    rw (c.clause.ensures, p.at.node) (paired a.s.now a.at.list.0 a.at.cursor p.walks p.at.more c.negate.result.0 c.negate.ensures)

pub look_clause-requires-clause-lookable : goal.look_clause-requires-clause-lookable
look_clause-requires-clause-lookable c =
    let a = c.args in
    let p = c.requires in
    rw (c.false_second-q.ensures.clauses, c.clause.ensures, c.negate.ensures, p.at.node) (lookable_there a.s.now a.at.list.0 a.at.cursor p.walks p.at.more)

pub look_clause-requires-clause-q_value : goal.look_clause-requires-clause-q_value
look_clause-requires-clause-q_value c =
    let a = c.args in
    let p = c.requires in
    rw (c.false_second-q.ensures.value, c.false_second-q.ensures.clauses, c.clause.ensures, c.negate.ensures, p.at.node)
    (sym (ap (λ (l : List ℕ). get_or l 0 0) (clause_there a.s.now a.at.list.0 a.at.cursor p.walks p.at.more)))

pub returns : goal.returns
returns c =
    let a = c.args in
    let p = c.requires in
    let s = a.s.now in
    let z = c.look_clause.new.s in
    let r = c.look_clause.result in
    let w = with_seconded s a.at.list.0 a.at.cursor p.walks p.at.more in
    let e : c.false_second-q.new.clauses ≡ w.clauses =
    c.false_second-q.ensures.clauses
    ∙ ap (λ (y : ℕ). put_clause s.clauses y (false_second c.negate.result.0 (clause_of s.clauses y))) c.clause.ensures
    ∙ ap (λ (f : ℕ). put_clause s.clauses (a.at.node / 2) (false_second f (at_node s.clauses a.at.node))) c.negate.ensures
    ∙ ap (λ (y : ℕ). put_clause s.clauses (y / 2) (false_second (neg a.at.list.0) (at_node s.clauses y))) p.at.node
    in
    subst (λ (y : ℕ). Looked s z a.at.list.0 a.at.cursor y r) (sym p.at.node)
    (looked s a.at.list.0 a.at.cursor p.walks p.at.more z r
    (ap (λ y. is_true s.trail.vars.values (get_or s.watches.blockers y 0)) (sym p.at.node) ∙ ap (is_true s.trail.vars.values) (sym c.blocker.ensures) ∙ sym c.is_true.ensures ∙ c.if-is_true.false)
    (subst (λ (y : ℕ). Looks w z a.at.list.0 a.at.cursor y r) p.at.node
    (subst (λ (k : Clauses). Looks (with_blocks s s.trail s.watches k) z a.at.list.0 a.at.cursor a.at.node r) e c.look_clause.ensures)))
