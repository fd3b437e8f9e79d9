use Rattle.watch.specs.Stores.{holds, sound_of}
use Rattle.watch.proofs.Watches.sound.Goals as goal

pub returns : goal.returns
returns c = sound_of (holds c.self.invariant c.self.view_is)
