-- Cases that tell wrong steps of the search from the right ones.
use Rattle.std.specs.Prelude.{◌≡◌, refl, [], ◌∷◌}
use Rattle.model.specs.Exec.{out}

pub record Steps : Type 0 where
  -- the blocker of a new watch is the clause's other watched literal: with 3 and 1 assumed, [0, 2, 4] gives 4
  pub blocked : out (3 ∷ 8 ∷ 64 ∷ 2 ∷ 2 ∷ 100 ∷ 1 ∷ 3 ∷ 0 ∷ 2 ∷ 4 ∷ 2 ∷ 2 ∷ 3 ∷ 1 ∷ 9 ∷ []) ≡ 1 ∷ 0 ∷ 0 ∷ 3 ∷ 1 ∷ 1 ∷ 0 ∷ []
  -- a watch that is false goes to a literal that is not: with 3 and 5 assumed, [0, 2, 4] gives 0
  pub moves : out (3 ∷ 8 ∷ 64 ∷ 2 ∷ 2 ∷ 100 ∷ 1 ∷ 3 ∷ 0 ∷ 2 ∷ 4 ∷ 2 ∷ 2 ∷ 3 ∷ 5 ∷ 9 ∷ []) ≡ 1 ∷ 0 ∷ 0 ∷ 3 ∷ 0 ∷ 1 ∷ 1 ∷ []
  -- literals above level 0 stay in the clause that is learnt
  pub resolves : out (4 ∷ 8 ∷ 64 ∷ 1 ∷ 2 ∷ 100 ∷ 1 ∷ 2 ∷ 0 ∷ 6 ∷ 1 ∷ 3 ∷ 2 ∷ 5 ∷ 0 ∷ 1 ∷ 3 ∷ 4 ∷ 2 ∷ 7 ∷ 2 ∷ 0 ∷ 1 ∷ 2 ∷ 1 ∷ 3 ∷ 1 ∷ []) ≡ 1 ∷ 1 ∷ 1 ∷ 2 ∷ 1 ∷ 1 ∷ 1 ∷ 2 ∷ 1 ∷ 1 ∷ 1 ∷ []
  -- a decision is not traced through
  pub traces : out (7 ∷ 65535 ∷ 64 ∷ 2 ∷ 2 ∷ 100 ∷ 1 ∷ 2 ∷ 5 ∷ 3 ∷ 1 ∷ 2 ∷ 9 ∷ 0 ∷ 1 ∷ 3 ∷ 7 ∷ 13 ∷ 4 ∷ 1 ∷ 2 ∷ 1 ∷ 9 ∷ 1 ∷ 2 ∷ 12 ∷ 8 ∷ 1 ∷ 2 ∷ 2 ∷ 5 ∷ 1 ∷ 2 ∷ 8 ∷ 10 ∷ 1 ∷ 3 ∷ 11 ∷ 6 ∷ 4 ∷ 2 ∷ 0 ∷ 1 ∷ []) ≡ 1 ∷ 1 ∷ 1 ∷ 1 ∷ 1 ∷ 1 ∷ 1 ∷ 1 ∷ 2 ∷ 2 ∷ 1 ∷ 1 ∷ []

pub steps : Steps
unfolding out
steps = record { blocked = refl; moves = refl; resolves = refl; traces = refl }
