-- Rule 4: what each mode keeps of a learnt clause.
-- Made by tools/vectors.py --antt from vectors/oracle.txt.
use Rattle.std.specs.Prelude.{◌≡◌, refl, List, [], ◌∷◌}
use Rattle.vectors.specs.Cases.{Case, runs, failing}

cases : List Case
cases =
    -- [8,7,2] is learnt as [8,2]: 7 is implied by 2's negation
    runs "mode-two-drops-a-literal" "6 65535 64 2 2 100 1 3 2 8 10 1 2 2 6 1 3 7 11 8 2 0 9 2 1 9 3" "1 1 1 0 1 6 1 1 1 0 0 0 0 0 6 1 0 1 0 1 1" ∷
    -- the same clauses
    runs "mode-zero-keeps-it" "6 65535 64 0 2 100 1 3 2 8 10 1 2 2 6 1 3 7 11 8 2 0 9 2 1 9 3" "1 1 1 0 1 6 1 1 1 0 0 0 0 1 6 1 0 1 0 1 1" ∷
    -- `retain` is never false; the published local rule would drop it
    runs "mode-one-keeps-it-too" "6 65535 64 1 2 100 1 3 2 8 10 1 2 2 6 1 3 7 11 8 2 0 9 2 1 9 3" "1 1 1 0 1 6 1 1 1 0 0 0 0 1 6 1 0 1 0 1 1" ∷
    -- the published rule would turn the second solve to TRUE
    runs "mode-one-keeps-all" "4 8 64 1 2 100 1 2 0 6 1 3 2 5 0 1 3 4 2 7 2 0 1 2 1 3 1" "1 1 1 2 1 1 1 2 1 1 1" ∷
    -- the shorter clause lets the second solve find a model
    runs "mode-two-on-the-same-clauses" "4 8 64 2 2 100 1 2 0 6 1 3 2 5 0 1 3 4 2 7 2 0 1 2 1 3 1" "1 1 1 2 1 1 1 0 0 4 0 1 1 1" ∷
    -- one step back is not enough here
    runs "mode-two-looks-through-reasons" "8 65535 64 2 2 100 1 2 13 7 1 2 0 15 1 2 2 11 1 2 13 6 1 4 3 4 12 14 1 2 10 14 1 2 5 12 1 2 4 7 2 1 1 9" "1 1 1 1 1 1 1 1 1 2 1 0" ∷
    -- with the marks left standing it would say FALSE, unsound
    runs "failed-try-takes-its-marks-back" "7 65535 64 2 2 100 1 2 5 3 1 2 9 0 1 3 7 13 4 1 2 1 9 1 2 12 8 1 2 2 5 1 2 8 10 1 3 11 6 4 2 0 1" "1 1 1 1 1 1 1 1 2 2 1 1" ∷
    []

all_hold : failing cases ≡ []
unfolding cases failing
all_hold = refl
