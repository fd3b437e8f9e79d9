-- How many conflicts a solve has, within the limits of a script.
use Rattle.std.specs.Prelude.{List, ℕ, ◌≤◌}
use Rattle.std.proofs.Common.{arith}
use Rattle.model.specs.Script.{Config}
use Rattle.model.specs.State.{Solver}
use Rattle.model.specs.Search.{Searched}
use Rattle.ends.specs.Rounds.{Final}
use Rattle.ends.specs.Bounds.{Limited}
use Rattle.ends.proofs.Bounds.{conflicts_fit}

-- ---- the limits of a script

pub conflicts_word : {cfg : Config} {ps : List ℕ} {budget : ℕ} {x₀ : Solver} {r : Searched} → Limited cfg → Final cfg ps budget x₀ r
    → r.conflicts ≤ 69632
conflicts_word l f = omega (arith, conflicts_fit f, l.clauses, l.variables)
