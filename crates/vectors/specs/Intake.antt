-- Rule 1: what a clause answers and what it leaves.
-- Made by tools/vectors.py --antt from vectors/oracle.txt.
use Rattle.std.specs.Prelude.{◌≡◌, refl, List, [], ◌∷◌}
use Rattle.vectors.specs.Cases.{Case, runs, failing}

cases : List Case
cases =
    -- P2: both signs, so it says 1 and stores nothing
    runs "tautology-is-dropped" "2 8 64 2 2 100 1 2 0 1 2 0 1" "1 0 0 2 1 1" ∷
    -- P3: later solves say FALSE with an empty final clause
    runs "empty-clause-ends-it" "2 8 64 2 2 100 1 0 2 0 1 2 1 2 1" "0 1 0 0 1 0 0" ∷
    -- P4: [0,0] is the unit 0
    runs "repeat-is-a-unit" "2 8 64 2 2 100 1 2 0 0 2 0 1" "1 0 0 2 0 1" ∷
    -- P5: the second unit is found false at level 0
    runs "contradicting-units" "2 8 64 2 2 100 1 1 0 1 1 1" "1 0" ∷
    -- what is kept is [0,2], stored once
    runs "repeats-of-two-literals" "2 8 64 2 2 100 1 4 2 0 2 0 2 2 1 3 9" "1 1 0 2 2 0" ∷
    -- 2 and 3 drop the clause, whatever else it holds
    runs "tautology-among-others" "3 8 64 2 2 100 1 4 4 3 0 2 2 0 1" "1 0 0 3 1 1 1" ∷
    -- 0 holds for good, so [0,3] says 1 and binds nothing
    runs "true-at-level-zero-is-dropped" "2 8 64 2 2 100 1 1 0 1 2 0 3 2 1 2 1" "1 1 0 0 2 0 0" ∷
    -- 1 is false for good, so [1,2] is the unit 2
    runs "false-at-level-zero-goes" "2 8 64 2 2 100 1 1 0 1 2 1 2 2 0 1" "1 1 0 0 2 0 0" ∷
    -- both literals are false for good, so nothing is left
    runs "all-false-at-level-zero" "2 8 64 2 2 100 1 1 0 1 1 2 1 2 1 3" "1 1 0" ∷
    -- [1,2], [0], [3]: 2 follows, but nobody has looked
    runs "unit-not-propagated-at-intake" "2 8 64 2 2 100 1 2 1 2 1 1 0 1 1 3" "1 1 1" ∷
    -- the same, and a solve with budget 0
    runs "unit-conflict-found-by-the-next-solve" "2 8 64 2 2 100 1 2 1 2 1 1 0 1 1 3 2 0 0" "1 1 1 1 1 0" ∷
    -- [1,2], [0], a stopped solve, [3]: now it is seen
    runs "level-zero-of-a-stopped-solve-counts" "2 8 64 2 2 100 1 2 1 2 1 1 0 2 0 0 1 1 3" "1 1 2 0 1 1 0" ∷
    -- once ok is false a clause with both signs says 0 too
    runs "false-for-good-answers-zero" "1 8 64 2 2 100 1 0 1 2 1 0" "0 0" ∷
    -- [0,4,2] is watched by 0 and 2, not by 0 and 4
    runs "sort-shows-in-the-search" "3 8 64 2 2 100 1 3 0 4 2 1 2 2 5 2 0 2" "1 1 0 1 3 1 0 0" ∷
    -- 2 × V literals, each twice
    runs "longest-clause" "2 8 64 2 2 100 1 4 3 3 1 1 2 0 1" "1 0 0 2 1 1" ∷
    -- 2 × V literals, all there are
    runs "longest-tautology" "2 8 64 2 2 100 1 4 3 2 1 0 2 0 1" "1 0 0 2 1 1" ∷
    []

all_hold : failing cases ≡ []
unfolding cases failing
all_hold = refl
