use Rattle.std.proofs.Common.{rules}
use Rattle.store.specs.Laws.{is_sound}
use Rattle.store.proofs.Store.sound.Goals as goal

pub returns : goal.returns
returns c = search (rules, is_sound)
