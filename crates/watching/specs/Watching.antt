-- What `propagate` keeps besides: the clauses are covered, and what is not propagated is of the present level.
use Rattle.std.specs.Prelude.{◌≡◌, List, ℕ, ◌<◌, get_or, take}
use Rattle.model.specs.Script.{Config}
use Rattle.model.specs.State.{VarState, State, level_lit, decision_level, clause_at}
use Rattle.lawbase.specs.Basics.{◌∈◌, Every}
use Rattle.lawbase.specs.WellFormed.{WellFormed}
use Rattle.assign.specs.Reading.{Unset}
use Rattle.watching.specs.Visit.{Falsified}
use Rattle.watching.specs.Covered.{Covered, Tied}
use Rattle.watching.specs.Cover.{Queued}

-- between two steps of a run
pub record Watching (cfg : Config) (s : State) : Type 0 where
  pub formed : WellFormed cfg s
  -- what is not propagated is of the present level
  pub queued : Queued s.vars s.qhead
  pub covered : Covered s.store.clauses s.vars (λ r l. l ∈ take s.qhead s.vars.trail)
  pub tied : Every (Tied s.store.clauses s.vars) s.vars.trail

-- set, below the present level
abbrev pub Below : VarState → ℕ → ℕ → Type 0
Below vs r l = (l ∈ vs.trail) × (level_lit vs l < decision_level vs)

-- clause c is false; the clauses are covered below the present level
pub record Conflict (cfg : Config) (c : ℕ) (s : State) : Type 0 where
  pub falsified : Falsified cfg c s
  pub covered : Covered s.store.clauses s.vars (Below s.vars)
  pub tied : Every (Tied s.store.clauses s.vars) s.vars.trail
  -- its first two literals are of the present level
  pub first : level_lit s.vars (get_or (clause_at s.store c) 0 0) ≡ decision_level s.vars
  pub second : level_lit s.vars (get_or (clause_at s.store c) 1 0) ≡ decision_level s.vars

-- ---- propagation as published

-- a true literal in the clause, or its first two unset
pub data Settled (vs : VarState) (c : List ℕ) : Type 0 where
  satisfied : (x : ℕ) → x ∈ c → x ∈ vs.trail → Settled vs c
  open_two : Unset vs (get_or c 0 0) → Unset vs (get_or c 1 0) → Settled vs c
