-- For every number of variables, by one argument: every such clause and every such set comes, in the order stated, none twice and no other.
use Rattle.std.specs.Prelude.{◌≢◌, length}
use mathlib.Core.List.{List}
use Prim.Native.Nat.{ℕ, ◌*◌, ◌≤◌, ◌<◌}
use Rattle.model.specs.Lit.{var}
use Rattle.lawbase.specs.Basics.{Every}
use Rattle.smallbooks.specs.Choose.{Ascending}

-- ---- no variable twice

-- no two literals are of one variable
abbrev pub Distinct : List ℕ → Type 0
Distinct c = Ascending (λ l m. var l ≢ var m) c

-- ---- the clauses

-- literals upward, of v variables, no two of one variable, and not none
pub record Clause (v : ℕ) (c : List ℕ) : Type 0 where
  pub upward : Ascending ◌<◌ c
  pub below : Every (λ l. l < 2 * v) c
  pub once : Distinct c
  pub some : 1 ≤ length c
