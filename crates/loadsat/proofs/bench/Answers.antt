use Rattle.std.proofs.Common.{arith}
use Rattle.text.specs.PrintBound.{refused_length}
use Rattle.loadsat.specs.Laws.{whole}
use Rattle.loadsat.proofs.Outputs.{printed_over}
use Rattle.loadsat.proofs.bench.Goals as goal

pub returns-in-Ok : goal.returns-in-Ok
returns-in-Ok c = printed_over _ _ _ _ _ _ _ c.filled-2.ensures c.filled-3.ensures c.filled-4.ensures c.in-Ok.ensures.answers

pub returns-in-Err : goal.returns-in-Err
returns-in-Err c =
    let f = c.in-Err.ensures.refusal in
    printed_over _ _ _ _ _ _ _ c.filled-2.ensures c.filled-3.ensures c.filled-4.ensures
    (whole _ c.requires (rw f.0 at c.print_refused.ensures) (refused_length c.in-Err.refusal (omega arith)) f.1)
