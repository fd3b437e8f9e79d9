-- A learnt clause: after the way back its first literal is unset and the others are false, so it is a reason of its first literal.
use Rattle.std.specs.Prelude.{List, ◌∷◌, ℕ, ◌≤◌, ◌<◌, length}
use Rattle.model.specs.Lit.{neg, no_reason}
use Rattle.model.specs.State.{VarState, State, level_lit, with_vars, with_store}
use Rattle.model.specs.Store.{attach_clause}
use Rattle.model.specs.Trail.{unchecked_enqueue, cancel_until}
use Rattle.lawbase.specs.Basics.{◌∈◌, Every}

-- a clause that is false, its first literal above `level` and the others not
pub record Asserting (vs : VarState) (level uip : ℕ) (rest : List ℕ) : Type 0 where
  pub false_first : neg uip ∈ vs.trail
  pub above : level < level_lit vs uip
  pub false_rest : Every (λ q. neg q ∈ vs.trail) rest
  pub low : Every (λ q. level_lit vs q ≤ level) rest

-- ---- the step as `search` does it

-- the states after the step
abbrev pub with_unit : ℕ → State → ℕ → State
with_unit phase s uip =
    let s₀ = cancel_until phase s 0 in
    with_vars s₀ (unchecked_enqueue s₀.vars uip no_reason)

abbrev pub with_learnt : ℕ → State → ℕ → ℕ → List ℕ → State
with_learnt phase s level uip rest =
    let s₁ = cancel_until phase s level in
    with_store (with_vars s₁ (unchecked_enqueue s₁.vars uip (length s.store.clauses))) (attach_clause s₁.store (uip ∷ rest))
