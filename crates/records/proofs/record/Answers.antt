use Rattle.model.specs.Run.{step}
use Rattle.records.specs.Recording.{fits_clause, fits_solve}
use Rattle.records.proofs.record.Goals as goal

pub clause-requires-clause-room : goal.clause-requires-clause-room
clause-requires-clause-room c = fits_clause (rw c.in-Clause.is at c.requires.fits)

pub solve-requires-clause-room : goal.solve-requires-clause-room
solve-requires-clause-room c = fits_solve (rw c.in-Solve.is at c.requires.fits)

pub returns-in-Clause : goal.returns-in-Clause
unfolding step
returns-in-Clause c = rw (c.in-Clause.is, step) c.clause.ensures

pub returns-in-Solve : goal.returns-in-Solve
unfolding step
returns-in-Solve c = rw (c.in-Solve.is, step) c.solve.ensures
