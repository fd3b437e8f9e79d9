use Rattle.std.proofs.Common.{sym, ap, ◌∙◌}
use Rattle.decide.specs.Deciding.{branch_of, branch_complete, branch_free, branch_shallow, branch_decides}
use Rattle.decide.proofs.decide_free.Goals as goal

pub returns-in_default : goal.returns-in_default
returns-in_default c = branch_complete c.requires.still c.args.act.now.activities (sym (ap branch_of c.in_default.is) ∙ c.pick_branch_lit.ensures)

pub open_level-requires-clause-free : goal.open_level-requires-clause-free
open_level-requires-clause-free c = branch_free c.requires.still c.args.act.now.activities (sym (ap branch_of c.in-Some.is) ∙ c.pick_branch_lit.ensures)

pub open_level-requires-clause-level : goal.open_level-requires-clause-level
open_level-requires-clause-level c =
    branch_shallow c.requires.still c.args.act.now.activities (sym (ap branch_of c.in-Some.is) ∙ c.pick_branch_lit.ensures) c.requires.level

pub returns : goal.returns
returns c =
    branch_decides c.requires.still c.args.act.now.activities (sym (ap branch_of c.in-Some.is) ∙ c.pick_branch_lit.ensures)
    c.open_level.ensures.has c.open_level.ensures.beside c.open_level.ensures.stored
