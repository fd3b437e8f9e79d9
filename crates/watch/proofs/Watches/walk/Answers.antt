use native.Mathlib.Omega.{arith}
use mathlib.Core.Path.{refl}
use Rattle.watch.specs.Stores.{holds, slot_low}
use Rattle.watch.specs.Walk.{stands_first}
use Rattle.watch.proofs.Watches.walk.Goals as goal

pub home-e-requires-clause-l_lt_slots : goal.home-e-requires-clause-l_lt_slots
home-e-requires-clause-l_lt_slots c = slot_low (holds c.self.invariant c.self.view_is) _ c.requires

pub returns : goal.returns
returns c = (stands_first (holds c.self.invariant c.self.view_is) c.args.l.0 _ _ c.home-e.ensures (omega (arith, c.home-e.ensures)) refl, refl)
