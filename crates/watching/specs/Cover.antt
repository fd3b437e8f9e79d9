-- A walk keeps the clauses covered, but for those that it has not come to yet.
use Rattle.std.specs.Prelude.{◌≡◌, List, ℕ, drop, take}
use Rattle.model.specs.Script.{Config}
use Rattle.model.specs.State.{Watch, VarState, State, level_lit, decision_level}
use Rattle.lawbase.specs.Basics.{◌∈◌, Every}
use Rattle.lawbase.specs.WellFormed.{times}
use Rattle.watching.specs.Visit.{Walking}
use Rattle.watching.specs.Covered.{Covered, Tied}

-- ---- enqueueing

-- literals that are not propagated are of the present level
abbrev pub Queued : VarState → ℕ → Type 0
Queued vs q = Every (λ l. level_lit vs l ≡ decision_level vs) (drop q vs.trail)

-- ---- what a walk over the watches of p leaves to do

-- l is before the queue's head q, and is p only for clauses that have no watch in ws
abbrev pub Left : ℕ → ℕ → List Watch → VarState → ℕ → ℕ → Type 0
Left p q ws vs r l = (l ∈ take q vs.trail) × (l ≡ p → times r ws ≡ 0)

pub record Covering (cfg : Config) (p q : ℕ) (kept ws : List Watch) (s : State) : Type 0 where
  pub walking : Walking cfg p q kept ws s
  pub top : level_lit s.vars p ≡ decision_level s.vars
  pub queued : Queued s.vars q
  pub covered : Covered s.store.clauses s.vars (Left p q ws s.vars)
  pub tied : Every (Tied s.store.clauses s.vars) s.vars.trail
