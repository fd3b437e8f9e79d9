use Rattle.answer.specs.Solving.{search_asks, solved}
use Rattle.answer.proofs.solve_ok.Goals as goal

pub solve_internal-r-requires-clause-running : goal.solve_internal-r-requires-clause-running
solve_internal-r-requires-clause-running c =
    search_asks c.args.x.now c.requires.between c.requires.limited c.args.q.assumptions.now c.requires.assumable c.args.q.budget c.requires.ok

pub returns : goal.returns
returns c =
    solved c.args.x.now c.requires.between c.requires.limited c.args.q.assumptions.now c.requires.assumable c.args.q.budget c.requires.ok c.solve_internal-r.ensures
    c.still_ok.ensures c.cancel_until.ensures.has c.cancel_until.ensures.beside.config c.put_answer-n.ensures
