use Rattle.smallbooks.specs.Books.{header}
use Rattle.std.proofs.Common.{◌∙◌}
use Rattle.smallbooks.proofs.header.Goals as goal

pub returns : goal.returns
unfolding header
returns c = rw c.unwrap.ensures at c.try_extend_from_slice.ensures.ok ∙ rw c.new-script.ensures
