use Rattle.std.proofs.Common.{◌≡◌, rules, ◌∙◌}
use Rattle.std.specs.Prelude.{slice_index}
use Rattle.replay.specs.VectorLaws.{first_cell}
use Rattle.replay.proofs.variables.Goals as goal

pub returns : goal.returns
returns c = let h : c.unwrap_or.result ≡ slice_index c.args.script.now 0 = search rules in h ∙ first_cell c.args.script.now
