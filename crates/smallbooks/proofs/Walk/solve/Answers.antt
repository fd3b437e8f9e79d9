use Rattle.std.proofs.Common.{refl}
use Rattle.smallbooks.specs.Books.{solve_record}
use Rattle.smallbooks.proofs.Tell.{solve_tells}
use Rattle.smallbooks.proofs.Walk.solve.Goals as goal

pub returns-clause-told : goal.returns-clause-told
unfolding solve_record
returns-clause-told c =
    solve_tells (rw c.unwrap.ensures at c.try_extend_from_slice.ensures.ok) c.len-used.ensures.value c.truncate.ensures.items refl c.found-found.ensures
    c.put_found.ensures.lines c.put_found.ensures.short c.add.ensures
