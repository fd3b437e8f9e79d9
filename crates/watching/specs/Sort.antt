-- The sort of a clause's literals, upward.
use Rattle.std.specs.Prelude.{List, [], ◌∷◌, ℕ, ◌≤◌}
use Rattle.lawbase.specs.Basics.{Every}

abbrev pub Ascending : List ℕ → Type 0
Ascending [] = Unit {0}
Ascending (x ∷ xs) = Every (λ y. x ≤ y) xs × Ascending xs
