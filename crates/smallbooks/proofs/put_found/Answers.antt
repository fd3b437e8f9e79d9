use Rattle.std.proofs.Common.{rules}
use Rattle.text.specs.Prints.{prints_more}
use Rattle.smallbooks.specs.Books.{printed}
use Rattle.smallbooks.proofs.Tell.{printed-length}
use Rattle.smallbooks.proofs.put_found.Goals as goal

pub returns-clause-lines : goal.returns-clause-lines
unfolding printed
returns-clause-lines c = rw c.from.ensures at (prints_more c.verdict.ensures c.numbered.ensures)

pub returns-clause-short : goal.returns-clause-short
returns-clause-short c = printed-length c.args.found (search rules)
