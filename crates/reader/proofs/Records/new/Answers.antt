use Rattle.script.specs.Accepted.{records_first}
use Rattle.reader.proofs.Records.new.Goals as goal

pub returns : goal.returns
returns c = records_first c.args.script.cells.now
