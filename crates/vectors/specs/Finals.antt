-- Rule 6: final clauses and assumptions.
-- Made by tools/vectors.py --antt from vectors/oracle.txt.
use Rattle.std.specs.Prelude.{◌≡◌, refl, List, [], ◌∷◌}
use Rattle.vectors.specs.Cases.{Case, runs, failing}

cases : List Case
cases =
    -- P9: assumptions 0, 1 give [0,1]; out needs V + 1 literals
    runs "contradictory-assumptions" "1 8 64 2 2 100 2 2 0 1 1" "1 0 2 0 1" ∷
    -- P10: assumptions 1, 0 give [1,0]
    runs "contradictory-assumptions-turned" "1 8 64 2 2 100 2 2 1 0 1" "1 0 2 1 0" ∷
    -- assumptions 0, 2, 1: 2 is not in it
    runs "final-holds-only-what-it-rests-on" "2 8 64 2 2 100 2 3 0 2 1 1" "1 0 2 0 1" ∷
    -- one literal, never none, and ok stays
    runs "assumption-false-at-level-zero" "1 8 64 2 2 100 1 1 1 2 1 0 1" "1 1 0 1 1" ∷
    -- the same behind another assumption
    runs "assumption-false-at-level-zero-levels-open" "2 8 64 2 2 100 1 1 1 2 2 2 0 1" "1 1 0 1 1" ∷
    -- document 01's bench example
    runs "assumption-false-by-a-unit-of-this-solve" "2 8 64 2 2 100 1 2 0 2 1 2 1 2 2 1 3 9" "1 1 1 1 1 2" ∷
    -- document 01's, both solves
    runs "bench-example" "2 512 4096 2 2 100 1 2 0 2 1 2 1 2 2 0 1000 2 1 3 1000" "1 1 0 0 2 1 0 1 1 1 2" ∷
    -- conflicts 0
    runs "empty-final-when-ok-is-false" "1 8 64 2 2 100 1 0 2 0 0" "0 1 0 0" ∷
    -- [1,3]: assumptions 0, 2 give [3,1]
    runs "final-has-the-negated-signs" "2 8 64 2 2 100 1 2 1 3 2 2 0 2 9" "1 1 0 2 3 1" ∷
    -- 0 implies 2 implies 4; assumptions 0, 6, 5
    runs "final-through-a-chain" "4 8 64 2 2 100 1 2 1 2 1 2 3 4 2 3 0 6 5 9" "1 1 1 0 2 4 1" ∷
    -- from the trail's end down, not in assumption order
    runs "final-in-trail-order" "4 8 64 2 2 100 1 4 1 3 5 7 2 4 4 0 2 6 9" "1 1 0 4 7 3 1 5" ∷
    -- each repeat opens an empty level
    runs "repeated-assumptions" "2 8 64 2 2 100 2 4 0 0 2 0 9" "0 0 2 0 0" ∷
    -- empty levels do not show in the final clause
    runs "repeated-then-contradicted" "2 8 64 2 2 100 2 4 0 0 2 1 9" "1 0 2 0 1" ∷
    -- 2 × V, both signs of each variable
    runs "as-many-assumptions-as-allowed" "2 8 64 2 2 100 2 4 2 0 3 1 9" "1 0 2 2 3" ∷
    []

all_hold : failing cases ≡ []
unfolding cases failing
all_hold = refl
