-- What a call of `propagate` gives, in one law each for its two ends.
use Rattle.std.specs.Prelude.{◌≡◌, ◌≢◌, List, ℕ, ◌<◌, length, get_or}
use Rattle.model.specs.Lit.{var}
use Rattle.model.specs.Script.{Config}
use Rattle.model.specs.State.{VarState, State, level_lit, decision_level, clause_at}
use Rattle.lawbase.specs.Basics.{◌∈◌}
use Rattle.watching.specs.Watching.{Watching, Conflict, Settled}
use Rattle.watching.specs.Forced.{Advance}

-- all is propagated: every stored clause has a true literal, or its first two are unset
pub record Rested (cfg : Config) (s₀ s : State) : Type 0 where
  pub watching : Watching cfg s
  pub advance : Advance cfg.variables s₀ s
  pub settled : (r : ℕ) → r < length s.store.clauses → Settled s.vars (clause_at s.store r)

-- every literal of the stored clause c is false, two of them of the present level
pub record Clashed (cfg : Config) (s₀ : State) (c : ℕ) (s : State) : Type 0 where
  pub conflict : Conflict cfg c s
  pub advance : Advance cfg.variables s₀ s

-- the first two literals of the false clause, both of the present level
pub record TopTwo (vs : VarState) (c : List ℕ) : Type 0 where
  pub first_in : get_or c 0 0 ∈ c
  pub second_in : get_or c 1 0 ∈ c
  pub apart : var (get_or c 1 0) ≢ var (get_or c 0 0)
  pub first : level_lit vs (get_or c 0 0) ≡ decision_level vs
  pub second : level_lit vs (get_or c 1 0) ≡ decision_level vs
