use Rattle.std.proofs.Common.{ap, ◌∙◌, get_or, ◌+◌}
use Rattle.std.specs.Prelude.{Option}
use Rattle.cells.specs.declared.Verdict.{Verdict}
use Rattle.smallbooks.specs.Books.{fresh}
use Rattle.smallbooks.proofs.AnswerLaws.{found_refused, found_ran}
use Rattle.smallbooks.proofs.Walk.found.Goals as goal

pub returns-in-Err : goal.returns-in-Err
unfolding fresh
returns-in-Err c = found_refused (rw c.deref.ensures.0 at c.run.ensures) c.args.self.now.taken _ c.in-Err.is

pub returns-in-Ok : goal.returns-in-Ok
unfolding fresh
returns-in-Ok c = ap (λ (v : Option Verdict). record { verdict = v; conflicts = get_or c.run.new.out (c.args.self.now.taken + 1) 0 }) c.from_cell.ensures ∙ found_ran (rw c.deref.ensures.0 at c.run.ensures) c.args.self.now.taken _ c.in-Ok.is
