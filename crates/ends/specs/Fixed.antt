-- The literals of level 0: how many there are, and that no step of a search takes one away.
use Rattle.std.specs.Prelude.{ℕ, ◌≤◌}
use mathlib.Core.List.{[], ◌∷◌}
use Rattle.std.proofs.Math.ListN.{length}
use Rattle.model.specs.State.{VarState}
use Rattle.model.specs.Decide.{Decision, decided, complete, failed}

-- the literals in front of the first limit
unfoldable pub fixed : VarState → ℕ
fixed vs = elim vs.limits [ [] ↦ length vs.trail | start ∷ more ↦ start ]

-- ---- decisions

abbrev pub Fixes : ℕ → Decision → Type 0
Fixes k (decided s) = k ≤ fixed s.vars
Fixes k (complete s) = k ≤ fixed s.vars
Fixes k (failed s final) = k ≤ fixed s.vars
