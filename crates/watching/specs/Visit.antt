-- A walk over the watches of p keeps what is well-formed; the list of p is what has stayed, and what is still to come.
use Rattle.std.specs.Prelude.{◌≡◌, ℕ, ◌<◌, length}
use mathlib.Core.List.{List, [], ◌∷◌, ◌++◌}
use Rattle.std.specs.Prelude.{None as none, Some as some}
use Rattle.model.specs.Lit.{neg}
use Rattle.model.specs.Script.{Config}
use Rattle.model.specs.State.{Watch, State, clause_at, with_qhead}
use Rattle.model.specs.Propagate.{Looked, stays, goes, false_clause, Propagated}
use Rattle.lawbase.specs.Basics.{◌∈◌, Every}
use Rattle.lawbase.specs.WellFormed.{WellFormed}
use Rattle.watching.specs.Reorder.{listed}

-- ---- what each outcome keeps

-- during a walk over the watches of p; the queue's head q does not move
pub record Walking (cfg : Config) (p q : ℕ) (kept ws : List Watch) (s : State) : Type 0 where
  pub formed : WellFormed cfg (listed p (kept ++ ws) s)
  pub on : p ∈ s.vars.trail
  pub head : s.qhead ≡ q

-- ---- the walk

-- the state when the walk over the watches of p meets a false clause
abbrev pub stopped : ℕ → List Watch → State → State
stopped p l s = with_qhead (listed p l s) (length s.vars.trail)

-- how a walk ends
pub data Ended (p : ℕ) (Inv : List Watch → List Watch → State → Type 0) (Clash : ℕ → State → Type 0) : Propagated → Type 0 where
  walked : (kept : List Watch) (s : State) → Inv kept [] s → Ended p Inv Clash (record { state = listed p kept s; conflict = none })
  clashed : (c : ℕ) (s : State) → Clash c s → Ended p Inv Clash (record { state = s; conflict = some c })

-- what an invariant of the walk has to give for one watch
abbrev pub Next : (p : ℕ) (Inv : List Watch → List Watch → State → Type 0) (Clash : ℕ → State → Type 0) (kept : List Watch) (w : Watch) (rest : List Watch)
    → Looked → Type 0
Next p Inv Clash kept w rest (stays w' s') = Inv (kept ++ (w' ∷ [])) rest s'
Next p Inv Clash kept w rest (goes s') = Inv kept rest s'
Next p Inv Clash kept w rest (false_clause w' s') = Clash w.clause (stopped p (kept ++ (w' ∷ rest)) s')

-- ---- well-formed

-- every literal of clause c is false
pub record Falsified (cfg : Config) (c : ℕ) (s : State) : Type 0 where
  pub formed : WellFormed cfg s
  pub stored : c < length s.store.clauses
  pub falses : Every (λ l. neg l ∈ s.vars.trail) (clause_at s.store c)
  pub head : s.qhead ≡ length s.vars.trail
