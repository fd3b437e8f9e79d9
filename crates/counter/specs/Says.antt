-- What the counter says: a row that is a model of it has at most k of the literals true, and a row with at most k true becomes one by the helpers' values alone.
-- A row is a function here, as in lawbase; specs/Rows.antt has the same over rows as the book has them.
use Prim.Native.Nat.{ℕ, ◌+◌}
use mathlib.Core.List.{List, [], ◌∷◌}
use Rattle.lawbase.specs.WellFormed.{bit}
use Rattle.lawbase.specs.Sem.{sat}

-- how many literals are true
unfoldable pub trues : (ℕ → ℕ) → List ℕ → ℕ
trues ρ [] = 0
trues ρ (x ∷ xs) = bit (sat ρ x) + trues ρ xs
