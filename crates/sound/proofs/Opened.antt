-- Opening a level for a decision keeps level 0.
use Rattle.std.specs.Prelude.{List, ℕ}
use Rattle.std.proofs.Common.{arith}
use Rattle.model.specs.Lit.{no_reason}
use Rattle.model.specs.State.{State, with_vars}
use Rattle.model.specs.Trail.{new_decision_level}
use Rattle.model.specs.Decide.{open_level}
use Rattle.lawbase.specs.WellFormed.{Assignment}
use Rattle.assign.proofs.Level.{level_more, open_assignment}
use Rattle.assign.specs.Pick.{Free}
use Rattle.sound.specs.Sound.{SameBase}
use Rattle.sound.proofs.Sound.{same_trans}
use Rattle.sound.proofs.Steps.{level_base, enqueue_base}

-- ---- level 0 stays

pub open_base : {n : ℕ} {cs : List (List ℕ)} (s : State) → Assignment n cs s.vars → (p : ℕ) → Free n s p → SameBase s (open_level s p)
unfolding open_level new_decision_level
open_base s w p f =
    same_trans (level_base s)
    (enqueue_base (with_vars s (new_decision_level s.vars)) (open_assignment w) p no_reason f.range f.unset
    (omega (arith, level_more s.vars)))
