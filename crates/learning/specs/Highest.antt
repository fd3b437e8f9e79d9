-- `highest_first`: a literal of the highest level, the earliest on a tie, changes places with the first one.
use Rattle.std.specs.Prelude.{List, [], ◌∷◌, ◌++◌, ℕ, ◌≤◌, ◌<◌, length, get_or}
use Rattle.model.specs.State.{VarState, level_lit}
use Rattle.lawbase.specs.Basics.{Every}

-- the list before and after
pub data Headed (vs : VarState) : List ℕ → List ℕ → Type 0 where
  empty : Headed vs [] []
  stays : {l : ℕ} {ls : List ℕ} → Every (λ q. level_lit vs q ≤ level_lit vs l) ls → Headed vs (l ∷ ls) (l ∷ ls)
  moves : {l y : ℕ} {xs ys : List ℕ} → Every (λ q. level_lit vs q < level_lit vs y) (l ∷ xs) → Every (λ q. level_lit vs q ≤ level_lit vs y) ys
      → Headed vs (l ∷ xs ++ (y ∷ ys)) (y ∷ xs ++ (l ∷ ys))

-- ---- the place that `highest` finds

pub record Top (vs : VarState) (L : List ℕ) (b : ℕ) : Type 0 where
  pub inside : b < length L
  pub earlier : (j : ℕ) → j < b → level_lit vs (get_or L j 0) < level_lit vs (get_or L b 0)
  pub most : (j : ℕ) → j < length L → level_lit vs (get_or L j 0) ≤ level_lit vs (get_or L b 0)
