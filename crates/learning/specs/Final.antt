-- `analyze_final`: the clause of a true literal p and of negations of decisions that make it true.
use Rattle.std.specs.Prelude.{◌≡◌, ◌≢◌, Bool, true, ℕ, suc, ◌≤◌, ◌<◌, length}
use mathlib.Core.List.{List, ◌∷◌}
use Rattle.model.specs.Lit.{neg, no_reason}
use Rattle.model.specs.State.{Store, VarState, level_lit, reason_lit}
use Rattle.lawbase.specs.Basics.{◌∈◌, Every}
use Rattle.lawbase.specs.WellFormed.{Distinct}
use Rattle.learning.specs.FirstUip.{Knows, Refutes}

-- ---- shape

-- the negation of a decision
pub record Decision (vs : VarState) (l : ℕ) : Type 0 where
  pub falsified : neg l ∈ vs.trail
  pub decided : reason_lit vs l ≡ no_reason
  pub above : 0 < level_lit vs l

-- ---- the clause

-- n variables; p is on the trail
pub record FinalClause (n : ℕ) (st : Store) (vs : VarState) (p : ℕ) (clause : List ℕ) : Type 0 where
  pub rest : List ℕ
  pub is : clause ≡ p ∷ rest
  pub decisions : Every (Decision vs) rest
  pub distinct : Distinct rest
  pub once : Every (λ l. l ≢ p) rest
  pub short : length clause ≤ suc n
  pub sound : (S : ℕ → Bool) → ((l : ℕ) → S l ≡ true → S (neg l) ≡ true → ⊥) → Knows S st vs → Refutes S clause → ⊥
