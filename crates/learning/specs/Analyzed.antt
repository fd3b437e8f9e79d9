-- `analyze`: what holds of the clause that is learnt, and of the level to go back to.
use Rattle.std.specs.Prelude.{◌≡◌, ◌↔◌, Bool, List, [], ◌∷◌, ℕ, ◌*◌, ◌≤◌, ◌<◌, length}
use Rattle.model.specs.Lit.{neg}
use Rattle.model.specs.State.{Store, VarState, decision_level, level_lit}
use Rattle.model.specs.Analyze.{backtrack_level}
use Rattle.lawbase.specs.Basics.{◌∈◌, Every}
use Rattle.lawbase.specs.WellFormed.{Distinct}
use Rattle.learning.specs.FirstUip.{Knows, Refutes}

-- ---- the clause learnt

-- n variables. The clause is falsified by `uip`, the only one of the conflict's level; after the way back to `level`, its other literals are still
-- false, and `uip` is unset.
pub record Analyzed (n : ℕ) (st : Store) (vs : VarState) (clause : List ℕ) (level : ℕ) : Type 0 where
  pub uip : ℕ
  pub rest : List ℕ
  pub is : clause ≡ neg uip ∷ rest
  pub uip_set : uip ∈ vs.trail
  pub uip_top : level_lit vs uip ≡ decision_level vs
  pub falsified : Every (λ q. neg q ∈ vs.trail) rest
  pub above : Every (λ q. 0 < level_lit vs q) rest
  pub below : Every (λ q. level_lit vs q ≤ level) rest
  pub lower : level < decision_level vs
  -- the level of the second literal, or 0 for a unit, and only then
  pub second : level ≡ backtrack_level vs rest
  pub unit : level ≡ 0 ↔ rest ≡ []
  pub distinct : Distinct clause
  pub range : Every (λ q. q < 2 * n) clause
  pub short : length clause ≤ n
  pub sound : (S : ℕ → Bool) → Knows S st vs → Refutes S clause → ⊥
