-- `propagate` sets unit consequences only, and reorders the stored clauses.
use Rattle.std.specs.Prelude.{◌≡◌, ◌≢◌, List, [], ◌++◌, reverse, ℕ, ◌*◌, ◌<◌, length, get_or}
use Rattle.model.specs.Lit.{no_reason}
use Rattle.model.specs.Script.{Config}
use Rattle.model.specs.State.{Watch, VarState, State, level_lit, reason_lit, decision_level}
use Rattle.model.specs.Trail.{unchecked_enqueue}
use Rattle.lawbase.specs.Basics.{Every}
use Rattle.lawbase.specs.WellFormed.{Implies, Assignment}
use Rattle.assign.specs.Reading.{Unset}
use Rattle.watching.specs.Permuted.{Permuted}
use Rattle.watching.specs.Visit.{Walking}
use Rattle.watching.specs.Covered.{Grown}

-- ---- clauses

-- the same clauses as sets, index by index
pub record Reordered (cs cs' : List (List ℕ)) : Type 0 where
  pub count : length cs' ≡ length cs
  pub each : (r : ℕ) → Permuted (get_or cs r []) (get_or cs' r [])

-- ---- literals

-- vs, and unit consequences of stored clauses set one after the other
pub data Forced (n : ℕ) (vs : VarState) : VarState → Type 0 where
  as_is : Forced n vs vs
  one_more : {vs' : VarState} → Forced n vs vs' → (cs : List (List ℕ)) → Assignment n cs vs' → (p from : ℕ) → p < 2 * n → Unset vs' p → from ≢ no_reason
      → Implies cs from p (reverse vs'.trail) → Forced n vs (unchecked_enqueue vs' p from)

-- the trail, and what is added behind it
pub record Extended (vs vs' : VarState) : Type 0 where
  pub added : List ℕ
  pub trail : vs'.trail ≡ vs.trail ++ added
  pub limits : vs'.limits ≡ vs.limits
  pub grown : Grown vs vs'
  -- each of them is implied, at the present level
  pub reasons : Every (λ p. reason_lit vs' p ≢ no_reason) added
  pub levels : Every (λ p. level_lit vs' p ≡ decision_level vs) added

-- ---- the walk, and `propagate`

-- from s₀ to s
pub record Advance (n : ℕ) (s₀ s : State) : Type 0 where
  pub forced : Forced n s₀.vars s.vars
  pub reordered : Reordered s₀.store.clauses s.store.clauses
  pub ok : s.ok ≡ s₀.ok
  pub phases : s.phases ≡ s₀.phases

pub record Advancing (cfg : Config) (s₀ : State) (p q : ℕ) (kept ws : List Watch) (s : State) : Type 0 where
  pub walking : Walking cfg p q kept ws s
  pub advance : Advance cfg.variables s₀ s
