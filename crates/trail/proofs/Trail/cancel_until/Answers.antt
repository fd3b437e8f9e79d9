use Rattle.std.proofs.Common.{ℕ, arith, ◌<◌, ◌≤◌, ◌≡◌, ◌-◌, ◌∙◌, ap, length, sym}
use Rattle.model.specs.State.{decision_level}
use Rattle.model.specs.Trail.{level_end}
use Rattle.trail.specs.Back.{undoing_begins, undoing_lits, undoing_falls, undoing_turns, undoing_cut}
use Rattle.trail.specs.Inside.{shown}
use Rattle.trail.specs.Laws.{trail_length, limits-length}
use Rattle.trail.proofs.Trail.cancel_until.Goals as goal

more : (c : goal.After-undo_last) → c.limit-at.result < length c.loop-self.self.vars.trail
more c = rw (← c.self-in-loop-self.view_is, trail_length _ c.self-in-loop-self.invariant) c.loop-self-test.true

pub loop-self-init : goal.loop-self-init
loop-self-init c = undoing_begins _ _ _ _ (rw c.limit-at.ensures c.requires.undoable.within)

pub undo_last-requires-clause-lits : goal.undo_last-requires-clause-lits
undo_last-requires-clause-lits c = undoing_lits _ _ _ _ _ c.loop-self.invariant c.requires.undoable.lits

pub loop-self-smaller : goal.loop-self-smaller
loop-self-smaller c =
    let m = more c in
    rw c.undo_last.ensures (omega (arith, undoing_falls _ _ _ _ _ c.loop-self.invariant m))

pub loop-self-preserved : goal.loop-self-preserved
loop-self-preserved c = rw c.undo_last.ensures (undoing_turns _ _ _ _ _ c.loop-self.invariant (more c))

pub returns : goal.returns
returns c =
    let u = rw (← c.self-2.view_is) at c.loop-self.invariant in
    let none : length c.loop-self.self.vars.trail ≤ c.limit-at.result = rw (← c.self-in-loop-self.view_is, trail_length _ c.self-in-loop-self.invariant) c.loop-self-test.false in
    let l : length (shown c.self-2.inside).vars.trail ≤ c.limit-at.result = rw (← c.self-2.view_is) at none in
    let d : c.self.inside.depth ≡ decision_level c.args.self.now.vars = rw (← c.self.view_is) (sym (limits-length _ c.self.invariant)) in
    undoing_cut _ _ _ _ c.self-2.inside c.self-2.invariant u c.args.level c.requires.level c.requires.undoable l c.limit-at.ensures
    (c.limit-last.ensures ∙ ap (λ (k : ℕ). level_end c.args.self.now.vars (k - 1)) d)
