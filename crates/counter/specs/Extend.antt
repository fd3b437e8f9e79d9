-- The helpers' values: column j of row i is true where more than j of the first i + 1 literals are.
use Rattle.std.specs.Prelude.{ℕ, suc, ◌+◌, ◌-◌, ◌*◌, ◌/◌, ◌%◌, ◌≤◌, ◌<◌, ◌⊎◌, Bool, List, length, take}
use Rattle.std.proofs.Math.Bool.{true, false}
use Rattle.std.proofs.Math.Dec.{ltb}
use Rattle.counter.specs.Says.{trues}

-- ---- the row with the helpers' values

unfoldable pub sign_of : Bool → ℕ
sign_of b = elim b [ true ↦ 0 | false ↦ 1 ]

-- helper d, from 0
unfoldable pub value : ℕ → (ℕ → ℕ) → List ℕ → ℕ → ℕ
value k ρ xs d = sign_of (ltb (d % k) (trues ρ (take (suc (d / k)) xs)))

unfoldable pub extend : ℕ → ℕ → (ℕ → ℕ) → List ℕ → ℕ → ℕ
extend k first ρ xs v =
    elim (ltb v first) [ true ↦ ρ v | false ↦ elim (ltb (v - first) ((length xs - 1) * k)) [ false ↦ ρ v | true ↦ value k ρ xs (v - first) ] ]

-- a variable that is none of the helpers
abbrev pub Apart : ℕ → ℕ → ℕ → Type 0
Apart first used v = (v < first) ⊎ (first + used ≤ v)
