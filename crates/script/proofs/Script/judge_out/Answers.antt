use Rattle.std.proofs.Common.{le-leb}
use Rattle.std.proofs.lemmas.Bool.{lt-leb}
use Rattle.model.specs.Script.{out_rows}
use Rattle.script.specs.Judging.{done, pass, stop}
use Rattle.script.specs.Needs.{cells_fit, more_past}
use Rattle.script.proofs.Script.judge_out.Goals as goal

pub returns-in-Some : goal.returns-in-Some
unfolding out_rows
returns-in-Some c = pass (le-leb _ c.args.out (cells_fit _ c.args.out _ _ c.out_need.ensures c.in-Some.is).1) done

pub returns-in-None : goal.returns-in-None
unfolding out_rows
returns-in-None c = rw c.out_capped.ensures (stop (lt-leb _ c.args.out (more_past _ c.args.out _ c.out_need.ensures c.in-None.is)))
