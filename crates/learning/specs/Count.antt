-- How many seen literals of the conflict's level a part of the trail has: what `path` counts.
use Rattle.std.specs.Prelude.{◌≡◌, Bool, true, ◌&&◌, List, [], ◌∷◌, ℕ, ◌+◌, eqb}
use Rattle.model.specs.State.{VarState, decision_level, level_lit}
use Rattle.model.specs.Minimise.{is_seen}
use Rattle.lawbase.specs.Basics.{◌∈◌}
use Rattle.lawbase.specs.WellFormed.{bit}

unfoldable pub hit : VarState → List ℕ → ℕ → Bool
hit vs seen p = is_seen seen p && eqb (level_lit vs p) (decision_level vs)

unfoldable pub tops : VarState → List ℕ → List ℕ → ℕ
tops vs seen [] = 0
tops vs seen (p ∷ t) = bit (hit vs seen p) + tops vs seen t

-- one that is counted
abbrev pub Counted : VarState → List ℕ → List ℕ → Type 0
Counted vs m t = (p : ℕ) × (p ∈ t) × (is_seen m p ≡ true) × (level_lit vs p ≡ decision_level vs)
