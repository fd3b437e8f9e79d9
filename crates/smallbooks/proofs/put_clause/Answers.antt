use Rattle.std.proofs.Common.{◌∙◌, append_assoc}
use Rattle.smallbooks.specs.Books.{record_of}
use Rattle.smallbooks.proofs.put_clause.Goals as goal

pub returns : goal.returns
unfolding record_of
returns g c =
    rw c.unwrap.ensures at c.try_extend_from_slice.ensures.ok
    ∙ simp (c.push-2.ensures.items, c.push.ensures.items, append_assoc)
