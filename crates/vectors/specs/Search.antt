-- Rules 2, 3, 5 to 8: propagation, learning, decisions, budgets and restarts.
-- Made by tools/vectors.py --antt from vectors/oracle.txt.
use Rattle.std.specs.Prelude.{◌≡◌, refl, List, [], ◌∷◌}
use Rattle.vectors.specs.Cases.{Case, runs, failing}

cases_1 : List Case
cases_1 =
    -- P6: cause 1 before the first decision
    runs "budget-zero-stops" "1 8 64 2 2 100 2 0 0" "2 0 1 1" ∷
    -- P7: the model is [1]
    runs "first-sign-is-negative" "1 8 64 2 2 100 2 0 1" "0 0 1 1" ∷
    -- P8: level 0 is never analysed
    runs "level-zero-conflict-at-budget-zero" "2 8 64 2 2 100 1 2 0 2 1 2 0 3 1 1 1 2 0 0" "1 1 1 1 1 0" ∷
    -- the budget is looked at before the model is seen
    runs "budget-zero-with-nothing-to-decide" "1 8 64 2 2 100 1 1 0 2 0 0" "1 2 0 1 1" ∷
    -- the budget is looked at before assumptions, contradictory ones too
    runs "budget-zero-before-assumptions" "1 8 64 2 2 100 2 2 0 1 0" "2 0 1 1" ∷
    -- the same where the assumption is false at level 0
    runs "budget-zero-before-a-false-assumption" "1 8 64 2 2 100 1 1 0 2 1 1 0" "1 2 0 1 1" ∷
    -- budget 1: the learnt unit's propagation meets level 0's conflict
    runs "conflicts-pass-the-budget" "2 8 64 2 2 100 1 2 0 2 1 2 0 3 1 2 1 2 1 2 1 3 2 0 1" "1 1 1 1 1 2 0" ∷
    -- the second solve has no conflict
    runs "learnt-unit-stays-after-the-stop" "2 8 64 2 2 100 1 2 3 0 1 2 2 0 2 0 1 2 0 1" "1 1 2 1 1 1 0 0 2 0 1" ∷
    -- so [3] is found false afterwards
    runs "learnt-unit-is-propagated-before-the-stop" "2 8 64 2 2 100 1 2 3 0 1 2 2 0 1 2 1 2 2 0 1 1 1 3" "1 1 1 2 1 1 1 0" ∷
    -- the second solve has no conflict
    runs "learnt-clause-stays-after-the-stop" "3 8 64 2 0 100 1 2 4 2 1 3 5 0 2 2 0 1 2 0 1" "1 1 2 1 1 1 0 0 3 1 0 1" ∷
    -- the second solve decides by them
    runs "activities-stay-after-the-stop" "3 8 64 2 2 100 1 2 5 0 1 2 4 2 1 2 4 0 2 0 1 2 0 1" "1 1 1 2 1 1 1 0 0 3 0 0 1" ∷
    -- term 0 again in the second solve
    runs "luby-starts-anew-in-each-solve" "5 65535 64 2 0 1 1 3 7 8 5 1 2 3 4 1 2 2 1 1 2 4 8 1 3 0 2 6 1 2 2 9 2 1 6 2 2 0 3" "1 1 1 1 1 1 0 1 5 1 0 0 0 0 2 3 1 1" ∷
    -- assumptions and all, and signs are saved on the way
    runs "restart-goes-to-level-zero" "3 8 64 2 1 1 1 2 0 2 1 3 5 0 3 2 1 4 2 2 0 1" "1 1 0 1 3 0 0 0 0 0 3 0 0 1" ∷
    -- on a false clause the watchers behind it stay unvisited
    runs "rest-of-the-watch-list-is-kept" "3 8 64 2 2 100 1 2 0 3 1 2 0 2 1 2 0 4 2 0 2" "1 1 1 0 1 3 0 1 1" ∷
    -- to the clause's first literal
    runs "kept-watcher-changes-its-blocker" "3 8 64 2 1 100 1 3 0 2 4 2 0 1 2 1 0 1 1 2 5 2 2 0 2" "1 0 0 3 1 1 0 0 0 3 0 1 0 1 0 1 3 1 0 1" ∷
    -- its literals are not exchanged
    runs "true-blocker-spares-the-clause" "3 8 64 2 2 100 1 3 1 4 2 1 3 4 1 3 2 1 3 1 2 2 2 0 1 2 1 5 2" "1 1 0 0 3 1 1 1 0 0 3 0 0 0 0 1 3 1 0 1" ∷
    -- the first literal that is not false, true or unset alike
    runs "new-watch-goes-to-the-tail" "4 8 64 2 2 100 1 2 4 7 1 4 0 6 4 2 2 0 2" "1 1 0 1 4 1 1 0 1" ∷
    -- not moved to the front with the rest shifted
    runs "second-literal-is-swapped" "5 65535 64 2 2 100 1 4 4 8 2 6 1 2 4 1 2 0 1 1 3 9 6 0 2 0 1 1 2 0 4 1 1 7 2 1 5 1 2 0 1" "1 1 0 0 5 1 1 1 1 0 1 2 1 1 1 1 1 2 1 1 1 0 0 5 1 0 0 1 1" ∷
    -- on a tie of levels
    runs "second-literal-is-the-earliest" "6 8 64 0 2 100 1 2 5 9 1 3 11 0 2 1 3 3 4 0 1 2 8 5 1 3 2 7 10 1 2 6 0 2 0 5" "1 1 1 1 1 1 0 3 6 0 1 1 0 1 0" ∷
    -- thirty repeats of an assumption put levels 32 apart
    runs "second-literal-by-level-not-by-mask" "15 65535 64 2 2 100 1 3 2 12 24 1 3 28 13 0 1 3 12 2 27 1 2 13 29 1 3 26 25 0 2 30 4 4 4 4 4 4 4 4 4 4 4 4 4 4 4 4 4 4 4 4 4 4 4 4 4 4 4 4 4 4 3" "1 1 1 1 1 0 2 15 1 0 0 1 1 1 1 1 1 1 1 1 0 0 0" ∷
    -- also those that resolve away
    runs "every-variable-met-is-bumped" "3 8 64 2 2 100 1 2 5 0 1 2 4 2 1 2 4 0 2 0 2" "1 1 1 0 1 3 0 0 1" ∷
    -- the increment grows at a learnt unit as at any other clause
    runs "learnt-unit-decays-too" "5 8 64 2 0 100 1 2 7 0 1 2 0 6 1 3 2 9 5 1 2 8 6 1 2 9 3 2 1 4 2 2 0 1" "1 1 1 1 1 2 2 1 1 0 0 5 0 1 1 0 1" ∷
    -- without decay another variable is picked in the second solve
    runs "decay-decides-the-pick" "4 65535 64 2 2 100 1 2 4 7 1 3 5 2 0 1 2 6 3 1 3 0 2 4 1 2 7 3 2 0 1 2 0 1" "1 1 1 1 1 2 2 1 1 0 0 4 0 1 0 0" ∷
    -- both activities are 0.0
    runs "lowest-variable-on-a-tie" "2 8 64 2 2 100 1 2 0 2 2 0 9" "1 0 0 2 1 0" ∷
    -- then a model
    runs "two-conflicts" "5 65535 64 2 2 100 1 2 7 9 1 2 0 6 1 2 9 0 1 2 7 8 2 0 1000" "1 1 1 1 0 2 5 0 1 1 1 1" ∷
    -- the last one at level 0
    runs "three-conflicts" "3 65535 64 2 2 100 1 2 5 3 1 2 5 2 1 2 4 3 1 2 1 4 1 3 2 4 0 2 0 1000" "1 1 1 1 1 1 3 0" ∷
    []

all_hold_1 : failing cases_1 ≡ []
unfolding cases_1 failing
all_hold_1 = refl

cases_2 : List Case
cases_2 =
    -- the last one at level 0
    runs "four-conflicts" "5 65535 64 2 2 100 1 3 9 0 2 1 2 3 4 1 3 0 5 9 1 2 4 2 1 2 8 5 1 2 5 9 2 0 1000" "1 1 1 1 1 1 1 4 0" ∷
    -- three clauses and two units are learnt
    runs "five-conflicts" "4 65535 64 2 2 100 1 3 2 7 5 1 2 4 7 1 3 6 4 2 1 3 4 6 3 1 3 5 0 6 1 2 7 5 2 0 1000" "1 1 1 1 1 1 0 5 4 0 0 0 1" ∷
    -- the last one at level 0
    runs "six-conflicts" "6 65535 64 2 2 100 1 3 4 3 6 1 3 4 6 2 1 2 7 10 1 2 7 4 1 3 5 0 6 1 2 10 6 1 2 11 5 1 3 7 5 9 1 2 2 8 2 0 1000" "1 1 1 1 1 1 1 1 1 1 6 0" ∷
    -- as unit clauses they would
    runs "assumptions-do-not-outlive-the-solve" "2 8 64 2 0 100 2 2 0 2 9 2 0 9" "0 0 2 0 0 0 0 2 1 1" ∷
    -- a later solve without them says TRUE
    runs "false-under-assumptions-leaves-ok" "1 65535 64 2 2 100 1 1 1 2 1 0 1 2 0 9" "1 1 0 1 1 0 0 1 1" ∷
    -- the second solve says FALSE with no conflict, whatever its assumptions
    runs "false-for-good" "2 8 64 2 2 100 1 2 0 2 1 2 0 3 1 2 1 2 1 2 1 3 2 0 9 2 1 2 0 1 2 0 1" "1 1 1 1 1 2 0 1 0 0 0" ∷
    []

all_hold_2 : failing cases_2 ≡ []
unfolding cases_2 failing
all_hold_2 = refl
