use Rattle.intake.specs.Sorting.{sorted_is}
use Rattle.intake.proofs.sort_in.Goals as goal

pub returns : goal.returns
returns c =
    let e = c.set_sorted.ensures in
    record { items = sorted_is _ _ e.moved e.sorted; cells = e.cells }
