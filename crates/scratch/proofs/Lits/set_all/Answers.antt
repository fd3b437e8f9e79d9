use Rattle.scratch.specs.Row.{filled_shows}
use Rattle.scratch.proofs.Lits.set_all.Goals as goal

pub returns : goal.returns
returns c = rw (← c.self.view_is, c.put_front.ensures) (filled_shows _ c.args.part.now)
