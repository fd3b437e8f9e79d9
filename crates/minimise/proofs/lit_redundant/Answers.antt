use Rattle.std.proofs.Common.{ℕ, ◌≤◌, length, arith, refl, sym, subst}
use Rattle.minimise.specs.Notes.{Noted}
use Rattle.minimise.specs.Redundant.{tracks_start, tracks_var, tracks_known, tracks_stored, tracks_filled, tracks_ask, tracks_pushed, tracks_noted, tracks_fail, tracks_less, tracks_turn, tracks_end}
use Rattle.minimise.proofs.lit_redundant.Goals as goal

pub loop-scratch-init : goal.loop-scratch-init
loop-scratch-init c = rw (c.push.ensures, c.clear.ensures) (tracks_start c.requires c.args.mask)

pub reason-requires : goal.reason-requires
reason-requires c = rw c.var.ensures (tracks_var c.requires c.loop-scratch.invariant _ _ c.pop-q.ensures.items c.pop-q.ensures.cells)

pub unwrap-c-requires : goal.unwrap-c-requires
unwrap-c-requires c = rw (tracks_known c.requires c.loop-scratch.invariant _ _ c.pop-q.ensures.items c.pop-q.ensures.cells c.var.ensures c.reason.ensures) refl

pub clause-requires : goal.clause-requires
clause-requires c =
    tracks_stored c.requires c.loop-scratch.invariant _ _ c.pop-q.ensures.items c.pop-q.ensures.cells c.var.ensures c.reason.ensures c.unwrap-c.ensures

pub slice_bounds-push_reason-count : goal.slice_bounds-push_reason-count
slice_bounds-push_reason-count c =
    tracks_filled c.requires c.loop-scratch.invariant _ _ c.pop-q.ensures.items c.pop-q.ensures.cells c.var.ensures c.reason.ensures c.unwrap-c.ensures c.clause.ensures

pub slice_bounds-push_reason-start : goal.slice_bounds-push_reason-start
slice_bounds-push_reason-start c =
    let f : 1 ≤ length c.clause.result.now =
    tracks_filled c.requires c.loop-scratch.invariant _ _ c.pop-q.ensures.items c.pop-q.ensures.cells c.var.ensures c.reason.ensures c.unwrap-c.ensures c.clause.ensures
    in
    omega (arith, f)

pub push_reason-requires : goal.push_reason-requires
push_reason-requires c =
    tracks_ask c.requires c.loop-scratch.invariant _ _ c.pop-q.ensures.items c.pop-q.ensures.cells c.var.ensures c.reason.ensures c.unwrap-c.ensures c.clause.ensures

pub unmark-requires : goal.unmark-requires
unmark-requires c =
    let p = c.requires in
    let g = c.loop-scratch.invariant in
    let h = tracks_pushed p g _ _ c.pop-q.ensures.items c.pop-q.ensures.cells c.var.ensures c.reason.ensures c.unwrap-c.ensures c.clause.ensures c.push_reason.ensures in
    let k = tracks_noted p g _ _ c.pop-q.ensures.items c.pop-q.ensures.cells h c.if-not-push_reason.true in
    subst (λ (n : ℕ). Noted c.push_reason.new.scratch.marks c.push_reason.new.scratch.notes n) (sym c.len-n.ensures) k

pub returns-then-not-push_reason : goal.returns-then-not-push_reason
returns-then-not-push_reason c =
    let p = c.requires in
    let g = c.loop-scratch.invariant in
    let h = tracks_pushed p g _ _ c.pop-q.ensures.items c.pop-q.ensures.cells c.var.ensures c.reason.ensures c.unwrap-c.ensures c.clause.ensures c.push_reason.ensures in
    tracks_fail p g _ _ c.pop-q.ensures.items c.pop-q.ensures.cells h c.if-not-push_reason.true _ _ (rw c.len-n.ensures at c.unmark.ensures)

pub loop-scratch-smaller : goal.loop-scratch-smaller
loop-scratch-smaller c =
    let p = c.requires in
    let g = c.loop-scratch.invariant in
    let h = tracks_pushed p g _ _ c.pop-q.ensures.items c.pop-q.ensures.cells c.var.ensures c.reason.ensures c.unwrap-c.ensures c.clause.ensures c.push_reason.ensures in
    tracks_less p g _ _ c.pop-q.ensures.items c.pop-q.ensures.cells h c.if-not-push_reason.false

pub loop-scratch-preserved : goal.loop-scratch-preserved
loop-scratch-preserved c =
    let p = c.requires in
    let g = c.loop-scratch.invariant in
    let h = tracks_pushed p g _ _ c.pop-q.ensures.items c.pop-q.ensures.cells c.var.ensures c.reason.ensures c.unwrap-c.ensures c.clause.ensures c.push_reason.ensures in
    tracks_turn p g _ _ c.pop-q.ensures.items c.pop-q.ensures.cells h c.if-not-push_reason.false

pub returns : goal.returns
returns c = tracks_end c.requires c.loop-scratch.invariant (omega arith)
