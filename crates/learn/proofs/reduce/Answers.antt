use Rattle.std.proofs.Common.{rules, ◌≢◌}
use Rattle.options.specs.Numbers.{mode_number}
use Rattle.learn.specs.Reducing.{reduced_none}
use Rattle.learn.proofs.reduce.Goals as goal

pub returns-else-eq : goal.returns-else-eq
returns-else-eq c =
    let n : mode_number c.args.s.now.config.mode ≢ 2 = search (rules, c.if-eq.ensures) in
    reduced_none c.args.s.now c.requires _ n c.unmark_cells.ensures
