use Rattle.std.proofs.Common.{arith, ◌≡◌}
use mathlib.Core.List.{[], ◌∷◌}
use Rattle.store.specs.View.{put_pushed}
use Rattle.tour.specs.Live.{three_pushed, live_stored}
use Rattle.tour.proofs.Tour.add_three.Goals as goal

pub invariant_of-self : goal.invariant_of-self
invariant_of-self c =
    let s = c.self.inside.state in
    let ps = c.args.p.0 ∷ c.args.q.0 ∷ c.args.r.0 ∷ [] in
    let e : c.push-3.new.self ≡ put_pushed s.clauses ps =
    rw (c.push-3.ensures, c.push-2.ensures, c.push.ensures, c.discard.ensures) (three_pushed s.clauses c.args.p.0 c.args.q.0 c.args.r.0)
    in
    let room = rw (← c.self.view_is) at c.requires.room in
    let lits = rw (← c.self.view_is) at c.requires.lits in
    rw (c.store_pushed.ensures.is, e) (live_stored c.self.invariant ps room.0 (omega arith) lits.0 lits.1)
