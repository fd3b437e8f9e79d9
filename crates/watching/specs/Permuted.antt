-- Clauses with the same literals in another order.
use Rattle.std.specs.Prelude.{List, ◌∷◌, ℕ}

pub data Permuted : List ℕ → List ℕ → Type 0 where
  same : {c : List ℕ} → Permuted c c
  keep : {c d : List ℕ} (l : ℕ) → Permuted c d → Permuted (l ∷ c) (l ∷ d)
  swap : {c : List ℕ} (l m : ℕ) → Permuted (l ∷ m ∷ c) (m ∷ l ∷ c)
  chain : {c d e : List ℕ} → Permuted c d → Permuted d e → Permuted c e
