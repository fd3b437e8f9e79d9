use Rattle.std.proofs.Common.{◌∙◌}
use Rattle.text.specs.PrintLaws.{kind_read}
use Rattle.text.proofs.kinds.kind_of.Goals as goal

pub returns : goal.returns
returns c = c.unwrap_or.ensures ∙ kind_read c.args.n c.try_from.result c.try_from.ensures
