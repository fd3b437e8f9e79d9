use Rattle.std.proofs.Common.{◌≡◌, ◌+◌, ◌-◌, ◌≤◌, length}
use Rattle.model.specs.Limits.{header_cells}
use Rattle.model.specs.Script.{out_needed}
use Rattle.script.specs.Walk.{records_from}
use Rattle.script.specs.Sound.{Readable}
use Rattle.script.proofs.Script.out_need.Given as goal

abbrev pub invariant-loop-at : goal.invariant-loop-at
invariant-loop-at l =
    record {
      readable : Readable l.self.header.variables l.self.cells.now l.at;
      within : l.need ≤ l.bound;
      sum : l.need + out_needed l.self.header.variables (records_from l.self.cells.now l.at) ≡ out_needed l.self.header.variables (records_from l.self.cells.now header_cells);
    }

abbrev pub decreases-loop-at : goal.decreases-loop-at
decreases-loop-at l = length l.self.cells.now - l.at
