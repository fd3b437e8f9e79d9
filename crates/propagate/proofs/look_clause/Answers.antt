use Rattle.std.proofs.Common.{refl, sym, ap, subst, ◌∙◌, List, ℕ, length, drop}
use Rattle.model.specs.Lit.{is_true}
use Rattle.model.specs.Propagate.{new_watch}
use Rattle.store.specs.View.{clause_of}
use Rattle.propagate.specs.View.{at_node, Passed, Settles, passes, moves, settles}
use Rattle.propagate.specs.Walking.{movable}
use Rattle.propagate.proofs.look_clause.Goals as goal

pub returns-then-is_true : goal.returns-then-is_true
returns-then-is_true c =
    let a = c.args in
    let s = a.s.now in
    let eq = c.requires.q_value in
    passes c.pass.result c.pass.new.watches (ap (is_true s.trail.vars.values) (sym eq) ∙ sym c.is_true.ensures ∙ c.if-is_true.true)
    (subst (λ b. Passed s.watches c.pass.new.watches a.at.list.0 b a.at.cursor a.at.node c.pass.result) eq c.pass.ensures) refl refl

pub go-requires-clause-movable : goal.go-requires-clause-movable
go-requires-clause-movable c =
    let a = c.args in
    let s = a.s.now in
    movable s c.requires.sized a.at.list.0 (length s.trail.vars.trail) (at_node s.clauses a.at.node) c.requires.lookable c.in-Some.k
    (sym (c.in-Some.ensures ∙ ap (λ (l : List ℕ). new_watch s.trail.vars.values 2 (drop 2 l)) (c.clause-2.ensures ∙ ap (clause_of s.clauses) c.clause.ensures)))

pub returns-in-Some : goal.returns-in-Some
returns-in-Some c =
    let a = c.args in
    let s = a.s.now in
    let eq = c.requires.q_value in
    moves c.in-Some.k c.go.new.watches (ap (is_true s.trail.vars.values) (sym eq) ∙ sym c.is_true.ensures ∙ c.if-is_true.false)
    (sym (c.in-Some.ensures ∙ ap (λ (l : List ℕ). new_watch s.trail.vars.values 2 (drop 2 l)) (c.clause-2.ensures ∙ ap (clause_of s.clauses) c.clause.ensures)))
    (rw (← eq) c.go.ensures.watches)
    (rw c.go.ensures.clauses) refl

pub returns-in-None : goal.returns-in-None
returns-in-None c =
    let a = c.args in
    let s = a.s.now in
    let eq = c.requires.q_value in
    settles c.settle.new.trail c.settle.new.watches (ap (is_true s.trail.vars.values) (sym eq) ∙ sym c.is_true.ensures ∙ c.if-is_true.false)
    (sym (c.in-None.ensures ∙ ap (λ (l : List ℕ). new_watch s.trail.vars.values 2 (drop 2 l)) (c.clause-2.ensures ∙ ap (clause_of s.clauses) c.clause.ensures)))
    (subst (λ b. Settles s.trail c.settle.new.trail s.watches c.settle.new.watches a.at.list.0 b a.at.cursor a.at.node c.settle.result) eq c.settle.ensures) refl
