-- The clauses' literals are those of the script's variables, three at most to a clause.
use Prim.Native.Nat.{ℕ, ◌+◌, ◌*◌, ◌≤◌, ◌<◌}
use Rattle.std.specs.Prelude.{◌≡◌, ◌⊎◌, true}
use mathlib.Core.List.{List}
use Rattle.std.proofs.Math.ListN.{length}
use Rattle.model.specs.Lit.{var}
use Rattle.model.specs.Limits as Limits
use Rattle.lawbase.specs.Basics.{Every}
use Rattle.counter.specs.Counter.{helpers, max_count, distinct}
use Rattle.counter.specs.Extend.{Apart}

-- ---- what a call says that is not turned back by 2, 18 or 19

pub record Fit (v : ℕ) (ls : List ℕ) (k first : ℕ) : Type 0 where
  pub some_variable : 1 ≤ v
  pub variables : v ≤ Limits.max_variables
  pub some : 1 ≤ length ls
  pub few : length ls ≤ max_count
  pub in_range : Every (λ l. l < 2 * v) ls
  pub distinct : distinct ls ≡ true
  pub apart : Every (λ l. Apart first (helpers k (length ls)) (var l)) ls
  pub helpers_fit : (helpers k (length ls) ≡ 0) ⊎ (first + helpers k (length ls) ≤ v)
