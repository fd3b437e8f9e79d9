-- Rule 5: the signs that each phase saves.
-- Made by tools/vectors.py --antt from vectors/oracle.txt.
use Rattle.std.specs.Prelude.{◌≡◌, refl, List, [], ◌∷◌}
use Rattle.vectors.specs.Cases.{Case, runs, failing}

cases : List Case
cases =
    -- only trail places above the last limit are saved
    runs "phase-one-not-the-last-decision" "1 8 64 2 1 100 2 1 0 1 2 0 1" "0 0 1 0 0 0 1 1" ∷
    -- what stands below the last level is forgotten too
    runs "phase-one-not-the-levels-below" "2 8 64 2 1 100 2 2 0 2 1 2 0 1" "0 0 2 0 0 0 0 2 1 1" ∷
    -- stands above the last limit, so it is saved
    runs "phase-one-what-the-last-decision-implied" "2 8 64 2 1 100 1 2 0 2 2 0 1 2 1 0 1" "1 0 0 2 1 0 0 0 2 0 0" ∷
    -- [1,2], assumptions 0, 0
    runs "phase-one-an-empty-last-level-saves-nothing" "2 8 64 2 1 100 1 2 1 2 2 2 0 0 1 2 0 1" "1 0 0 2 0 0 0 0 2 1 1" ∷
    -- now 2 is saved
    runs "phase-one-without-the-repeat" "2 8 64 2 1 100 1 2 1 2 2 1 0 1 2 0 1" "1 0 0 2 0 0 0 0 2 1 0" ∷
    -- and tries it first in the next solve
    runs "phase-two-saves-the-model" "1 8 64 2 2 100 2 1 0 1 2 0 1" "0 0 1 0 0 0 1 0" ∷
    -- the next solve decides negative again
    runs "phase-zero-saves-nothing" "1 8 64 2 0 100 2 1 0 1 2 0 1" "0 0 1 0 0 0 1 1" ∷
    -- [2,1], assumption 0, then none: three phases, three models
    runs "one-script-phase-zero" "2 65535 64 2 0 100 1 2 2 1 2 1 0 3 2 0 9" "1 0 0 2 0 0 0 0 2 1 1" ∷
    -- only what assumption 0 implied is saved
    runs "one-script-phase-one" "2 65535 64 2 1 100 1 2 2 1 2 1 0 3 2 0 9" "1 0 0 2 0 0 0 0 2 1 0" ∷
    -- assumption 0 is saved with it
    runs "one-script-phase-two" "2 65535 64 2 2 100 1 2 2 1 2 1 0 3 2 0 9" "1 0 0 2 0 0 0 0 2 0 0" ∷
    []

all_hold : failing cases ≡ []
unfolding cases failing
all_hold = refl
