-- The literals of a record are those of v variables.
use Rattle.std.specs.Prelude.{ℕ, ◌*◌, ◌<◌}
use Rattle.model.specs.Script.{Record, clause, solve}
use Rattle.lawbase.specs.Basics.{Every}

abbrev pub Ranged : ℕ → Record → Type 0
Ranged v (clause c) = Every (λ l. l < 2 * v) c
Ranged v (solve assumptions budget) = Every (λ l. l < 2 * v) assumptions
