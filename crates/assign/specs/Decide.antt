-- Every state that `decide` yields is well-formed, and a decision opens a level.
use Rattle.std.specs.Prelude.{◌≡◌, ◌≢◌, List, [], ◌∷◌, ◌++◌, get_or}
use Prim.Native.Nat.{ℕ, ◌<◌}
use Rattle.std.proofs.Math.ListN.{length}
use Rattle.model.specs.Lit.{neg, l_undef}
use Rattle.model.specs.State.{State, decision_level}
use Rattle.model.specs.Script.{Config}
use Rattle.model.specs.Final.{analyze_final}
use Rattle.model.specs.Decide.{Decision, decided, complete, failed}
use Rattle.lawbase.specs.Basics.{◌∈◌, Every}
use Rattle.assign.specs.Searching.{Searching}
use Rattle.assign.specs.Pick.{Free}

-- ---- what it comes to

-- one literal more, on a level of its own
pub record Decided (cfg : Config) (assumptions : List ℕ) (s s' : State) : Type 0 where
  pub searching : Searching cfg assumptions s'
  pub store : s'.store ≡ s.store
  pub deeper : decision_level s.vars < decision_level s'.vars
  pub literal : ℕ
  pub free : Free cfg.variables s literal
  pub trail : s'.vars.trail ≡ s.vars.trail ++ (literal ∷ [])
  pub qhead : s'.qhead ≡ s.qhead

-- every variable has a value, and the assumptions are true
pub record Completed (cfg : Config) (assumptions : List ℕ) (s s' : State) : Type 0 where
  pub searching : Searching cfg assumptions s'
  pub store : s'.store ≡ s.store
  pub values : s'.vars.values ≡ s.vars.values
  pub trail : s'.vars.trail ≡ s.vars.trail
  pub all : (v : ℕ) → v < cfg.variables → get_or s'.vars.values v 0 ≢ l_undef
  pub assumed : Every (λ p. p ∈ s'.vars.trail) assumptions
  pub qhead : s'.qhead ≡ s.qhead

-- the next assumption is false
pub record Failed (cfg : Config) (assumptions : List ℕ) (s s' : State) (final : List ℕ) : Type 0 where
  pub searching : Searching cfg assumptions s'
  pub store : s'.store ≡ s.store
  pub values : s'.vars.values ≡ s.vars.values
  pub trail : s'.vars.trail ≡ s.vars.trail
  pub shallow : decision_level s'.vars < length assumptions
  pub false_on : neg (get_or assumptions (decision_level s'.vars) 0) ∈ s'.vars.trail
  pub clause : final ≡ analyze_final s'.store s'.vars (neg (get_or assumptions (decision_level s'.vars) 0))
  pub qhead : s'.qhead ≡ s.qhead

abbrev pub Outcome : Config → List ℕ → State → Decision → Type 0
Outcome cfg ps s (decided s') = Decided cfg ps s s'
Outcome cfg ps s (complete s') = Completed cfg ps s s'
Outcome cfg ps s (failed s' final) = Failed cfg ps s s' final
