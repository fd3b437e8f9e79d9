use Rattle.std.proofs.Common.{◌-◌, length}
use Rattle.model.specs.Limits.{header_cells}
use Rattle.script.specs.Judging.{Same}
use Rattle.script.specs.Walk.{rows_from}
use Rattle.script.proofs.Script.walk.Given as goal

abbrev pub invariant-loop-at : goal.invariant-loop-at
invariant-loop-at l = Same (rows_from l.header.variables l.cells header_cells) (rows_from l.header.variables l.cells l.at)

abbrev pub decreases-loop-at : goal.decreases-loop-at
decreases-loop-at l = length l.cells - l.at
