-- The greatest conflicts and the first set with that many, kept as the sets come.
use Rattle.std.specs.Prelude.{true, false, List, [], ◌∷◌, ℕ, ◌+◌, ltb}
use Rattle.smallbooks.specs.declared.Score.{Score}

-- a set more: it is the first with the greatest conflicts if it has more than each before it
unfoldable pub one_more : Score → ℕ → Score
one_more s x = elim (ltb s.most x) [
  | true ↦ record { count = s.count + 1; most = x; first = s.count + 1 }
  | false ↦ record { count = s.count + 1; most = s.most; first = s.first }
]

unfoldable pub scores : Score → List ℕ → Score
scores s [] = s
scores s (x ∷ xs) = scores (one_more s x) xs

-- before the first set
unfoldable pub none_yet : Score
none_yet = record { count = 0; most = 0; first = 1 }
