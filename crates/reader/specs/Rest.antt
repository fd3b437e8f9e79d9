-- The records that a reader has left, in order.
use Rattle.std.specs.Prelude.{List}
use Rattle.model.specs.Script.{Record}
use Rattle.script.specs.Walk.{records_from}
use Rattle.reader.specs.declared.Records.{Records}

abbrev pub rest_of : Records → List Record
rest_of r = records_from r.script.cells.now r.at
