use Rattle.std.proofs.Common.{Option, ℕ, ap, ◌∙◌, unwrap_or}
use Rattle.script.specs.Needs.{within-capped}
use Rattle.script.proofs.Script.out_capped.Goals as goal

pub returns : goal.returns
returns c = c.unwrap_or.ensures ∙ ap (λ (r : Option ℕ). unwrap_or r c.args.bound) c.out_need.ensures ∙ within-capped _ c.args.bound
