use Rattle.scratch.specs.Row.{put_shows}
use Rattle.scratch.proofs.Lits.set_cell.Goals as goal

pub returns : goal.returns
returns c = rw (← c.self.view_is) (put_shows _ _ c.args.k c.args.p.0)
