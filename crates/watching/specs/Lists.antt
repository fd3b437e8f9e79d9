-- One clause reordered: its watches in their lists, and the store.
use Rattle.std.specs.Prelude.{◌≡◌, ◌⊎◌, List, ℕ}
use Rattle.model.specs.State.{Watch}
use Rattle.lawbase.specs.Basics.{◌∈◌}

-- ---- the clause cr becomes d, and the lists become others

-- a watch that was in the list, or one of clause cr with a blocker of d
abbrev pub OldOrOwn : List Watch → ℕ → List ℕ → Watch → Type 0
OldOrOwn ws cr d v = (v ∈ ws) ⊎ ((v.clause ≡ cr) × (v.blocker ∈ d))
