-- Answer 2, cause 2, and what is left behind them.
-- Made by tools/vectors.py --antt from vectors/storage.txt.
use Rattle.std.specs.Prelude.{◌≡◌, refl, List, [], ◌∷◌}
use Rattle.vectors.specs.Cases.{Case, runs, failing}

cases_1 : List Case
cases_1 =
    -- C = 0
    runs "no-room-for-a-clause" "2 0 64 2 2 100 1 2 0 2" "2" ∷
    -- L = 0
    runs "no-room-for-literals" "2 8 0 2 2 100 1 2 0 2" "2" ∷
    -- L = 1, two kept
    runs "one-literal-short" "2 8 1 2 2 100 1 2 0 2" "2" ∷
    -- L = 2, [0,2,0] keeps two: reached, not passed
    runs "limit-of-literals-is-reached" "2 8 2 2 2 100 1 3 0 2 0" "1" ∷
    -- and a second one does not fit
    runs "limit-of-literals-is-passed" "2 8 2 2 2 100 1 3 0 2 0 1 2 0 3" "1 2" ∷
    -- C = 2, the third finds two stored
    runs "limit-of-clauses-is-reached" "2 2 64 2 2 100 1 2 0 2 1 2 0 3 1 2 1 2" "1 1 2" ∷
    -- L = 5, two and three
    runs "literals-add-up-to-the-limit" "3 8 5 2 2 100 1 2 0 2 1 3 0 2 4" "1 1" ∷
    -- L = 4
    runs "literals-pass-the-limit-by-one" "3 8 4 2 2 100 1 2 0 2 1 3 0 2 4" "1 2" ∷
    -- L = 4: two, three (2), two
    runs "smaller-clause-fits-afterwards" "3 8 4 2 2 100 1 2 0 2 1 3 0 2 4 1 2 2 4" "1 2 1" ∷
    -- C = 0, both signs
    runs "dropped-clause-needs-no-room" "1 0 64 2 2 100 1 2 1 0" "1" ∷
    -- C = 0, L = 0, true at level 0
    runs "satisfied-clause-needs-no-room" "2 0 0 2 2 100 1 1 0 1 2 0 2" "1 1" ∷
    -- C = 0, [1], then [0,2]: one literal kept
    runs "clause-shrinks-to-a-unit" "2 0 64 2 2 100 1 1 1 1 2 0 2" "1 1" ∷
    -- C = 0, [1], [3], then [0,2]: none kept
    runs "clause-shrinks-to-nothing" "2 0 64 2 2 100 1 1 1 1 1 3 1 2 0 2" "1 1 0" ∷
    -- C = 0, L = 0
    runs "unit-needs-no-room" "1 0 0 2 2 100 1 1 0 2 0 1" "1 0 0 1 0" ∷
    -- C = 0, L = 0
    runs "empty-clause-needs-no-room" "1 0 0 2 2 100 1 0" "0" ∷
    -- ok does not hold, so the answer is 0
    runs "false-for-good-before-storage" "2 0 0 2 2 100 1 0 1 2 0 2" "0 0" ∷
    -- L = 2, [1], then [0,2,4] keeps two
    runs "only-kept-literals-count" "3 8 2 2 2 100 1 1 1 1 3 0 2 4" "1 1" ∷
    -- the same with L = 1
    runs "kept-literals-pass-the-limit" "3 8 1 2 2 100 1 1 1 1 3 0 2 4" "1 2" ∷
    -- C = 1, [1,2], [0]: 2 follows unseen, so [2,4] is not dropped
    runs "unpropagated-is-not-yet-true" "3 1 64 2 2 100 1 2 1 2 1 1 0 1 2 2 4" "1 1 2" ∷
    -- the same behind a stopped solve: [2,4] is true at level 0
    runs "propagated-is-dropped" "3 1 64 2 2 100 1 2 1 2 1 1 0 2 0 0 1 2 2 4" "1 1 2 0 1 1 1" ∷
    -- C = 1, [0,2], [0], a solve, [2,4]: nothing leaves the store
    runs "satisfied-clause-keeps-its-place" "3 1 64 2 2 100 1 2 0 2 1 1 0 2 0 9 1 2 2 4" "1 1 0 0 3 0 1 1 2" ∷
    -- L = 7: 2 + 3 + 2 learnt
    runs "learnt-clauses-count" "3 8 7 2 2 100 1 2 2 5 1 3 0 4 2 2 0 1 1 2 0 2" "1 1 2 1 1 1 2" ∷
    -- C = 3: two clauses and a learnt unit leave room for one
    runs "learnt-units-do-not-count" "3 3 64 2 2 100 1 2 1 3 1 2 2 1 2 1 0 1 1 2 4 2" "1 1 2 1 1 1 1" ∷
    -- C = 1, [0,2], [1,3] untaken, assumptions 0, 2
    runs "untaken-clause-binds-nothing" "2 1 64 2 2 100 1 2 0 2 1 2 1 3 2 2 0 2 1" "1 2 0 0 2 0 0" ∷
    -- C = 2, [2,0] is learnt, far below the budget
    runs "no-room-for-a-learnt-clause" "3 2 64 2 2 100 1 3 2 0 5 1 2 4 2 2 0 9" "1 1 2 1 1 2" ∷
    -- L = 6: 3 + 2 + 2
    runs "no-room-for-learnt-literals" "3 3 6 2 2 100 1 3 2 0 5 1 2 4 2 2 0 9" "1 1 2 1 1 2" ∷
    -- C = 3, L = 7, so the budget stops it
    runs "learnt-clause-just-fits" "3 3 7 2 2 100 1 3 2 0 5 1 2 4 2 2 0 1" "1 1 2 1 1 1" ∷
    -- no clause is learnt, so the cause is 1
    runs "budget-zero-needs-no-room" "3 2 64 2 2 100 1 3 2 0 5 1 2 4 2 2 0 0" "1 1 2 0 1 1" ∷
    -- C = 2, a unit is learnt
    runs "learnt-unit-needs-no-room" "2 2 64 2 2 100 1 2 3 0 1 2 0 2 2 0 1" "1 1 2 1 1 1" ∷
    -- P8 with C = 2 and L = 4
    runs "level-zero-conflict-needs-no-room" "2 2 4 2 2 100 1 2 0 2 1 2 0 3 1 1 1 2 0 0" "1 1 1 1 1 0" ∷
    -- P9 with C = 0 and L = 0: a final clause is not learnt
    runs "final-clause-needs-no-room" "1 0 0 2 2 100 2 2 0 1 1" "1 0 2 0 1" ∷
    -- mode 2, L = 10: 8 + 2 fit
    runs "minimised-clause-is-judged" "6 4 10 2 2 100 1 3 2 8 10 1 2 2 6 1 3 7 11 8 2 0 9" "1 1 1 0 1 6 1 1 1 0 0 0" ∷
    -- the same in mode 0: 8 + 3 do not
    runs "unminimised-clause-is-judged" "6 4 10 0 2 100 1 3 2 8 10 1 2 2 6 1 3 7 11 8 2 0 9" "1 1 1 2 1 1 2" ∷
    -- the same in mode 1
    runs "mode-one-is-judged-as-mode-zero" "6 4 10 1 2 100 1 3 2 8 10 1 2 2 6 1 3 7 11 8 2 0 9" "1 1 1 2 1 1 2" ∷
    -- the second of two learnt clauses fits after minimising
    runs "smaller-learnt-clause-fits" "4 65535 24 2 2 100 1 4 2 0 7 5 1 2 1 2 1 4 0 5 3 7 1 2 6 4 1 3 7 4 0 1 3 4 1 2 1 2 2 1 2 0 2" "1 1 1 1 1 1 1 2 2 1 1" ∷
    -- budget 1
    runs "storage-wins-over-a-spent-budget" "3 8 5 2 2 100 1 3 2 0 5 1 2 4 2 2 0 1" "1 1 2 1 1 2" ∷
    -- phase 1; through the backjump's level it would save other signs
    runs "one-step-back-to-level-zero" "4 8 11 2 1 100 1 3 6 3 4 1 2 7 4 1 3 0 4 2 1 2 2 0 2 0 1 2 0 1" "1 1 1 1 2 1 1 2 0 0 4 0 1 1 1" ∷
    -- two learnt clauses fit in C = 8, the third does not
    runs "conflicts-before-the-stop-count" "4 8 64 2 2 100 1 3 2 7 5 1 2 4 7 1 3 6 4 2 1 3 4 6 3 1 3 5 0 6 1 2 7 5 2 0 1000" "1 1 1 1 1 1 2 3 1 2" ∷
    -- the second solve decides by them
    runs "bumps-stay-at-the-stop" "4 4 64 2 2 100 1 3 4 6 2 1 2 7 2 1 2 5 0 1 2 0 5 2 0 1 2 0 1" "1 1 1 1 2 1 1 2 0 0 4 0 1 0 1" ∷
    -- two stops with bumps on 0, 1, 2 and on 3, 4, 5 leave a tie
    runs "no-decay-at-the-stop" "6 5 64 2 0 100 1 3 0 2 4 1 3 0 2 5 1 3 6 8 10 1 3 6 8 11 1 2 0 6 2 2 1 3 5 2 2 7 9 5 2 2 2 8 5" "1 1 1 1 1 2 1 1 2 2 1 1 2 0 0 6 1 0 1 0 0 1" ∷
    []

all_hold_1 : failing cases_1 ≡ []
unfolding cases_1 failing
all_hold_1 = refl

cases_2 : List Case
cases_2 =
    -- so the second solve runs into the same conflict
    runs "dropped-clause-is-not-learnt" "3 2 64 2 2 100 1 3 2 0 5 1 2 4 2 2 0 9 2 0 9" "1 1 2 1 1 2 2 1 1 2" ∷
    -- assumption 0 avoids the conflict
    runs "other-assumptions-after-the-stop" "3 2 64 2 2 100 1 3 2 0 5 1 2 4 2 2 0 9 2 1 0 9" "1 1 2 1 1 2 0 0 3 0 1 0" ∷
    -- L = 8: a clause of two still fits where the learnt one of three did not
    runs "clause-after-the-stop-is-taken" "4 8 8 2 2 100 1 3 2 4 6 1 3 0 4 7 2 0 1 1 2 0 2" "1 1 2 1 1 2 1" ∷
    -- [1] makes the next conflict learn the unit 2, for which there is room
    runs "unit-after-the-stop" "3 2 64 2 2 100 1 3 2 0 5 1 2 4 2 2 0 9 1 1 1 2 0 9" "1 1 2 1 1 2 1 0 1 3 1 0 1" ∷
    -- phase 2 saves assumption 0, so the second solve meets the same conflict
    runs "signs-are-saved-at-the-stop" "3 2 64 2 2 100 1 2 5 2 1 3 1 2 4 2 1 0 9 2 0 1" "1 1 2 1 1 2 2 1 1 2" ∷
    -- phase 1 saves 4, which the last assumption implied
    runs "phase-one-saves-at-the-stop" "3 2 64 2 1 100 1 3 4 2 1 1 2 1 5 2 2 3 0 2 2 0 3" "1 1 2 1 1 2 0 0 3 1 1 0" ∷
    []

all_hold_2 : failing cases_2 ≡ []
unfolding cases_2 failing
all_hold_2 = refl
