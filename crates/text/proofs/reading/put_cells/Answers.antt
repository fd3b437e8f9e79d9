use Rattle.std.proofs.Common.{refl, ap, arith, ◌++◌, drop, length, List, ℕ}
use Rattle.text.specs.PutLaws.{puts_cells, puts_long}
use Rattle.text.proofs.reading.put_cells.Goals as goal

pub returns-then-rest-n : goal.returns-then-rest-n
returns-then-rest-n c = puts_long c.args.xs.now refl (omega arith)

pub returns : goal.returns
returns c =
    let xs = c.args.xs.now in
    puts_cells xs refl refl (omega arith) (ap (λ (l : List ℕ). l ++ drop (length xs) c.args.rest.now) c.copy_from_slice.ensures.after)
