use mathlib.Core.Path.{◌≡◌}
use mathlib.Core.List.{◌++◌, map}
use lib.ListN.{take, drop}
use Rattle.activity.specs.Activities.{scaled}
use Rattle.activity.proofs.rescale.Given as goal

abbrev pub invariant-loop-x : goal.invariant-loop-x
invariant-loop-x l = l.act ≡ map scaled (take l.x-index l.initial.act) ++ drop l.x-index l.initial.act
