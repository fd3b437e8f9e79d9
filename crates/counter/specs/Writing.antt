-- The writer's loops: what is left to write, turn by turn; and how many cells there are.
use Rattle.std.specs.Prelude.{ℕ, ◌+◌, ◌-◌, List, [], ◌∷◌, ◌++◌}
use Rattle.counter.specs.Counter.{columns, stop}

-- ---- turns of the loops

-- what is left of a row behind its first two clauses
abbrev pub row_tail : ℕ → ℕ → ℕ → List (List ℕ)
row_tail k x base = columns x base (base + k) 0 (k - 1) ++ (stop k x base ∷ [])
