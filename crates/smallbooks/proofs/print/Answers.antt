use Rattle.std.proofs.Common.{rules}
use Rattle.smallbooks.proofs.Whole.{prints}
use Rattle.smallbooks.proofs.print.Goals as goal

pub returns : goal.returns
returns c = prints c.new-printer.ensures.start c.new-printer.ensures.text (search rules) c.book.ensures c.book-2.ensures c.book-3.ensures
