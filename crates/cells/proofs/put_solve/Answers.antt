use Rattle.std.proofs.Common.{refl, ◌∙◌, arith}
use Rattle.cells.specs.Paste.{paste_solve}
use Rattle.cells.proofs.put_solve.Goals as goal

pub returns : goal.returns
returns c = (c.put.ensures ∙ paste_solve c.args.out.now 0 c.args.answer c.args.conflicts c.args.body.now (omega arith), refl)
