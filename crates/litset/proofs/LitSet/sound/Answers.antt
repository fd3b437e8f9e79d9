use Rattle.litset.specs.Laws.{is_sound}
use Rattle.litset.proofs.LitSet.sound.Goals as goal

pub returns : goal.returns
returns c = rw (← c.self.view_is) (is_sound _ _ c.self.invariant c.sound.ensures)
