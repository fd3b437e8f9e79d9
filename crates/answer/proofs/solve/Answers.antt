use Rattle.answer.specs.Solving.{solved-closed}
use Rattle.answer.proofs.solve.Goals as goal

pub returns : goal.returns
returns c =
    solved-closed c.args.x.now c.requires.between c.requires.limited c.args.q.assumptions.now c.requires.assumable c.args.q.budget c.if-x.false c.put_verdict.ensures
