use native.Mathlib.Omega.{arith}
use mathlib.Core.Path.{refl}
use Rattle.watch.specs.Walk.{passed_low, stands_stays}
use Rattle.watch.proofs.Watches.stay.Goals as goal

pub overflow_add-result : goal.overflow_add-result
overflow_add-result c =
    omega (arith, passed_low c.args.self.now _ _ c.sound.ensures c.requires.l_bound c.requires.stands.0, c.sound.ensures.blockers)

pub returns : goal.returns
returns c = (stands_stays _ _ _ _ c.requires.stands.0 c.requires.stands.1 _ refl c.requires.x_value refl, refl)
