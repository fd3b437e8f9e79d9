use Rattle.std.proofs.Common.{length-take-le}
use Rattle.scratch.specs.Row.{exchange_shows}
use Rattle.scratch.proofs.Lits.swap.Goals as goal

pub returns : goal.returns
returns c =
    let r = c.requires in
    rw (← c.self.view_is, c.swap.ensures.after)
    (exchange_shows _ _ c.args.i c.args.j c.self.invariant
    (rw (← c.self.view_is, length-take-le _ _ c.self.invariant) at r.i_in_bounds)
    (rw (← c.self.view_is, length-take-le _ _ c.self.invariant) at r.j_in_bounds))
