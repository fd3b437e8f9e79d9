-- How many conflicts a solve has, and how many searches.
use Rattle.std.specs.Prelude.{◌≤◌}
use Rattle.model.specs.Limits as Limits
use Rattle.model.specs.Script.{Config}

-- ---- the limits of a script

pub record Limited (cfg : Config) : Type 0 where
  pub least_variables : 1 ≤ cfg.variables
  pub variables : cfg.variables ≤ Limits.max_variables
  pub clauses : cfg.max_clauses ≤ Limits.max_clauses
  pub least_unit : 1 ≤ cfg.unit
  pub unit : cfg.unit ≤ Limits.max_unit
