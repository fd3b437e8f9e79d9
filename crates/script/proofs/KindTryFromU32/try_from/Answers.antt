use Rattle.std.proofs.Common.{refl, arith, ne_eqb}
use Rattle.model.specs.Script.{known}
use Rattle.script.proofs.KindTryFromU32.try_from.Goals as goal

pub returns-in_default : goal.returns-in_default
unfolding known
returns-in_default c = (refl, rw (ne_eqb c.args.cell 1 (omega arith)) (ne_eqb c.args.cell 2 (omega arith)))
