use Rattle.std.proofs.Common.{length, get_or, ◌∙◌, arith, length-take-le}
use Rattle.replay.specs.VectorLaws.{holds_short, holds_gives}
use Rattle.replay.proofs.holds.Goals as goal

pub returns-in_default : goal.returns-in_default
returns-in_default c = holds_short c.args.numbers.now (length c.args.work.now) (length c.args.activities.now) (length c.args.out.now) (omega arith)

pub returns : goal.returns
returns c =
    let a = c.args in
    let n = a.numbers.now in
    c.gives.ensures
    ∙ holds_gives n (length a.work.now) (length a.activities.now) (length a.out.now) (omega arith) (omega arith) (omega arith) (omega arith) (omega arith) _ _ _
    (length-take-le (get_or n 0 0) a.work.now (omega arith)) (length-take-le (get_or n 1 0) a.activities.now (omega arith)) (length-take-le (get_or n 2 0) a.out.now (omega arith))
