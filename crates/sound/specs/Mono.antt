-- More clauses: what follows from some follows from more, in whatever order.
use Rattle.std.specs.Prelude.{List, ℕ}
use Rattle.lawbase.specs.Basics.{◌∈◌, Every}

-- every clause of F is one of G
abbrev pub Within : List (List ℕ) → List (List ℕ) → Type 0
Within F G = Every (λ C. C ∈ G) F
