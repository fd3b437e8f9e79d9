use Rattle.std.proofs.Common.{rules}
use Rattle.text.specs.Prints.{prints_more}
use Rattle.smallbooks.specs.Whole.{most_line}
use Rattle.smallbooks.proofs.Whole.{most_length}
use Rattle.smallbooks.proofs.put_most.Goals as goal

pub returns-clause-line : goal.returns-clause-line
unfolding most_line
returns-clause-line c = rw (c.from.ensures, c.from-2.ensures) at (prints_more (prints_more c.bytes.ensures c.number.ensures) c.numbered.ensures)

pub returns-clause-short : goal.returns-clause-short
returns-clause-short c = most_length c.args.score (search rules) (search rules)
