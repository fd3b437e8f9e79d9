-- Of a clause exactly the literals are left that cannot be traced, in their order, whatever the mask, if it lets pass what can be traced.
use Rattle.std.specs.Prelude.{ℕ}
use mathlib.Core.List.{List, [], ◌∷◌}
use Rattle.model.specs.State.{Store, VarState}
use Rattle.mask.specs.Traceable.{Traceable}

-- K has the literals of ls that cannot be traced, in their order
pub data Left (st : Store) (vs : VarState) (clause : List ℕ) : List ℕ → List ℕ → Type 0 where
  end : Left st vs clause [] []
  stays : {l : ℕ} {ls K : List ℕ} → (Traceable st vs clause l → ⊥) → Left st vs clause ls K → Left st vs clause (l ∷ ls) (l ∷ K)
  goes : {l : ℕ} {ls K : List ℕ} → Traceable st vs clause l → Left st vs clause ls K → Left st vs clause (l ∷ ls) K
