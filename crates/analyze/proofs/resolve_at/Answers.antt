use Rattle.std.proofs.Common.{◌≤◌, ◌∙◌, length, arith, ap}
use Rattle.model.specs.Lit.{var}
use Rattle.store.specs.View.{clause_of}
use Rattle.analyze.specs.Walking.{turn_reason, turn_is, turn_some, turn_asks}
use Rattle.analyze.proofs.resolve_at.Goals as goal

pub unwrap-c-requires : goal.unwrap-c-requires
unwrap-c-requires c = rw (turn_reason c.requires.turning c.requires.more (c.var-v.ensures ∙ ap var c.at.ensures) c.reason.ensures)

pub slice_bounds-join-count : goal.slice_bounds-join-count
slice_bounds-join-count c =
    let r = turn_is c.requires.turning c.requires.more (c.var-v.ensures ∙ ap var c.at.ensures) c.reason.ensures c.unwrap-c.ensures in
    let h : 1 ≤ length c.clause.result.now = rw (c.clause.ensures, r) (turn_some c.requires.turning c.requires.more) in
    omega arith

pub slice_bounds-join-start : goal.slice_bounds-join-start
slice_bounds-join-start c =
    let r = turn_is c.requires.turning c.requires.more (c.var-v.ensures ∙ ap var c.at.ensures) c.reason.ensures c.unwrap-c.ensures in
    let h : 1 ≤ length c.clause.result.now = rw (c.clause.ensures, r) (turn_some c.requires.turning c.requires.more) in
    omega arith

pub join-requires : goal.join-requires
join-requires c =
    let v = c.var-v.ensures ∙ ap var c.at.ensures in
    let r = turn_is c.requires.turning c.requires.more v c.reason.ensures c.unwrap-c.ensures in
    turn_asks c.requires.turning c.requires.more (rw v at c.unset.ensures) (c.clause.ensures ∙ ap (clause_of c.args.clauses.now) r)
