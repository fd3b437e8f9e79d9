use Prim.Native.Nat.{◌-◌}
use lib.ListN.{length}
use mathlib.Core.List.{[], ◌∷◌}
use Rattle.model.specs.Lit.{neg}
use Rattle.counter.specs.Counter.{helper, stop}
use Rattle.counter.proofs.Writing.{room_one}
use Rattle.counter.proofs.clauses.stop.Goals as goal

pub put-requires-clause-c_in_bounds : goal.put-requires-clause-c_in_bounds
unfolding stop
put-requires-clause-c_in_bounds c =
    let a = c.args in
    room_one a.w.now.at (length a.w.now.out.now) (neg a.x ∷ neg (helper a.base (a.k - 1)) ∷ []) [] c.requires.fits

pub returns-clause-wrote : goal.returns-clause-wrote
unfolding stop
returns-clause-wrote c = rw (c.negate.ensures, c.negate-2.ensures, c.helper.ensures) at c.put.ensures.wrote
