-- The out cells that a script's records may need.
use Rattle.std.specs.Prelude.{ℕ}
use Rattle.model.specs.Limits.{header_cells}
use Rattle.model.specs.Script.{out_needed}
use Rattle.script.specs.declared.Script.{Script}
use Rattle.script.specs.Walk.{records_from}

abbrev pub need_of : Script → ℕ
need_of s = out_needed s.header.variables (records_from s.cells.now header_cells)
