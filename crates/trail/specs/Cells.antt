-- Every cell of the slices shows.
use Rattle.std.specs.Prelude.{ℕ, ◌≡◌, List, ◌∷◌, []}
use Rattle.std.proofs.Common.{ap}
use Rattle.trail.specs.View.{Assignment}
use Rattle.trail.specs.Inside.{shown}
use Rattle.trail.specs.declared.Trail.TheInside.{Inside}

-- the slices that an assignment shows
abbrev regions : Assignment → List (List ℕ)
regions a = a.vars.values ∷ a.vars.levels ∷ a.vars.reasons ∷ a.phases ∷ a.trail_cells ∷ a.limit_cells ∷ []

abbrev pub slices : Inside → List (List ℕ)
slices t = t.values.now ∷ t.levels.now ∷ t.reasons.now ∷ t.phases.now ∷ t.literals.now ∷ t.limits.now ∷ []

-- two trails that show the same have the same in their slices
pub all_shown : (t t' : Inside) → shown t ≡ shown t' → slices t ≡ slices t'
all_shown t t' e = ap regions e
