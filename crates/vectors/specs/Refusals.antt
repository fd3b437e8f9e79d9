-- Scripts with the lengths of work, activities and out: number and place of the refusal, or the cells.
-- Made by tools/vectors.py --antt from vectors/refusals.txt.
use Rattle.std.specs.Prelude.{◌≡◌, refl, List, [], ◌∷◌}
use Rattle.vectors.specs.Cases.{Case, refused, passes, failing}

cases_1 : List Case
cases_1 =
    passes "no-cells" "0 0 0" "" "" ∷
    passes "no-cells-longer-slices" "100 5 9" "" "" ∷
    refused "one-cell" "0 0 0" "2" "1 1" ∷
    refused "five-cells" "0 0 0" "2 8 64 2 2" "1 5" ∷
    refused "five-bad-cells" "0 0 0" "0 65536 1048577 3 3" "1 5" ∷
    passes "six-cells-pass" "96 1 0" "1 0 0 0 0 1" "" ∷
    refused "no-variable" "0 0 0" "0 8 64 2 2 100" "2 0" ∷
    refused "variables-4097" "0 0 0" "4097 8 64 2 2 100" "2 0" ∷
    refused "variables-4294967295" "0 0 0" "4294967295 8 64 2 2 100" "2 0" ∷
    passes "variables-4096-pass" "131136 4096 0" "4096 0 0 0 0 1" "" ∷
    refused "variables-before-limits" "0 0 0" "0 65536 1048577 3 3 0" "2 0" ∷
    refused "clauses-65536" "0 0 0" "2 65536 64 2 2 100" "3 1" ∷
    passes "clauses-65535-pass" "524376 1 0" "1 65535 0 0 0 1" "" ∷
    refused "literals-1048577" "0 0 0" "2 8 1048577 2 2 100" "3 2" ∷
    passes "literals-1048576-pass" "1048672 1 0" "1 0 1048576 0 0 1" "" ∷
    refused "clauses-before-literals" "0 0 0" "2 65536 1048577 2 2 100" "3 1" ∷
    refused "limits-before-mode" "0 0 0" "2 8 1048577 3 3 0" "3 2" ∷
    refused "mode-3" "0 0 0" "2 8 64 3 2 100" "4 3" ∷
    refused "phase-3" "0 0 0" "2 8 64 2 3 100" "4 4" ∷
    refused "unit-0" "0 0 0" "2 8 64 2 2 0" "4 5" ∷
    refused "unit-1001" "0 0 0" "2 8 64 2 2 1001" "4 5" ∷
    refused "mode-before-phase" "0 0 0" "2 8 64 3 3 0" "4 3" ∷
    refused "phase-before-unit" "0 0 0" "2 8 64 2 3 0" "4 4" ∷
    passes "mode-2-phase-2-unit-1000-pass" "256 2 0" "2 8 64 2 2 1000" "" ∷
    passes "mode-0-phase-0-unit-1-pass" "256 2 0" "2 8 64 0 0 1" "" ∷
    refused "work-one-short" "255 2 64" "2 8 64 2 2 100 2 0 1" "5 256" ∷
    passes "work-just-enough" "256 2 64" "2 8 64 2 2 100 2 0 1" "0 0 2 1 1" ∷
    refused "no-work" "0 2 64" "2 8 64 2 2 100" "5 256" ∷
    refused "largest-work-one-short" "1703991 4096 0" "4096 65535 1048576 2 2 100" "5 1703992" ∷
    refused "work-before-activities" "255 0 64" "2 8 64 2 2 100 2 0 1" "5 256" ∷
    refused "work-before-records" "255 2 64" "2 8 64 2 2 100 3" "5 256" ∷
    refused "activities-one-short" "256 1 64" "2 8 64 2 2 100 2 0 1" "6 2" ∷
    refused "activities-4095" "131136 4095 0" "4096 0 0 2 2 100" "6 4096" ∷
    refused "activities-before-records" "256 1 64" "2 8 64 2 2 100 3" "6 2" ∷
    refused "record-0" "256 2 64" "2 8 64 2 2 100 0 0" "7 6" ∷
    refused "record-3" "256 2 64" "2 8 64 2 2 100 3 0 0" "7 6" ∷
    refused "record-4294967295" "256 2 64" "2 8 64 2 2 100 4294967295 0" "7 6" ∷
    refused "record-kind-before-its-count" "256 2 64" "2 8 64 2 2 100 3" "7 6" ∷
    refused "second-record-0" "256 2 64" "2 8 64 2 2 100 1 2 0 3 0 9" "7 10" ∷
    refused "clause-without-count" "256 2 64" "2 8 64 2 2 100 1" "8 7" ∷
    refused "solve-without-count" "256 2 64" "2 8 64 2 2 100 2" "8 7" ∷
    refused "clause-past-the-script" "256 2 64" "2 8 64 2 2 100 1 2 0" "8 9" ∷
    passes "clause-to-the-end-passes" "256 2 1" "2 8 64 2 2 100 1 2 0 2" "1" ∷
    refused "solve-past-the-script" "256 2 64" "2 8 64 2 2 100 2 2 0" "8 9" ∷
    refused "solve-without-budget" "256 2 64" "2 8 64 2 2 100 2 0" "8 8" ∷
    refused "solve-with-assumption-without-budget" "256 2 64" "2 8 64 2 2 100 2 1 3" "8 9" ∷
    refused "second-record-past-the-script" "256 2 64" "2 8 64 2 2 100 1 1 0 1 1" "8 11" ∷
    refused "missing-budget-before-literals" "256 2 64" "2 8 64 2 2 100 2 1 99" "8 9" ∷
    refused "past-the-script-before-literals" "256 2 64" "2 8 64 2 2 100 1 3 99 99" "8 10" ∷
    refused "literal-2-v" "256 2 64" "2 8 64 2 2 100 1 1 4" "9 8" ∷
    passes "literal-below-2-v-passes" "256 2 1" "2 8 64 2 2 100 1 1 3" "1" ∷
    refused "second-literal-too-large" "256 2 64" "2 8 64 2 2 100 1 3 0 4 9" "9 9" ∷
    refused "literal-undef" "256 2 64" "2 8 64 2 2 100 1 1 4294967294" "9 8" ∷
    refused "assumption-2-v" "256 2 64" "2 8 64 2 2 100 2 1 4 1" "9 8" ∷
    refused "literal-in-the-second-record" "256 2 64" "2 8 64 2 2 100 1 1 0 2 2 1 4 1" "9 12" ∷
    passes "largest-literal-of-4096-passes" "131136 4096 1" "4096 0 0 2 2 100 1 1 8191" "1" ∷
    refused "literal-8192" "131136 4096 1" "4096 0 0 2 2 100 1 1 8192" "9 8" ∷
    refused "literal-before-budget" "256 2 64" "2 8 64 2 2 100 2 1 4 1000001" "9 8" ∷
    refused "clause-of-2-v-and-one" "256 2 64" "2 8 64 2 2 100 1 5 0 0 0 0 0" "10 7" ∷
    passes "clause-of-2-v-passes" "256 2 1" "2 8 64 2 2 100 1 4 0 0 0 0" "1" ∷
    []

all_hold_1 : failing cases_1 ≡ []
unfolding cases_1 failing
all_hold_1 = refl

cases_2 : List Case
cases_2 =
    refused "assumptions-2-v-and-one" "256 2 64" "2 8 64 2 2 100 2 5 0 0 0 0 0 1" "10 7" ∷
    passes "assumptions-2-v-pass" "256 2 6" "2 8 64 2 2 100 2 4 0 0 0 0 1" "0 0 2 0 1" ∷
    refused "count-before-the-end" "256 2 64" "2 8 64 2 2 100 1 5" "10 7" ∷
    refused "count-4294967295" "256 2 64" "2 8 64 2 2 100 1 4294967295 0" "10 7" ∷
    refused "count-before-literals" "256 2 64" "2 8 64 2 2 100 1 5 9 9 9 9 9" "10 7" ∷
    refused "count-in-the-second-record" "256 2 64" "2 8 64 2 2 100 2 0 1 1 5" "10 10" ∷
    refused "clause-of-8191-of-4096" "131136 4096 1" "4096 0 0 2 2 100 1 8191" "10 7" ∷
    refused "clause-of-8192-of-4096" "131136 4096 1" "4096 0 0 2 2 100 1 8192" "10 7" ∷
    refused "clause-of-8193-of-4096" "131136 4096 1" "4096 0 0 2 2 100 1 8193" "10 7" ∷
    refused "count-210-of-105-allowed" "3552 105 1" "105 8 64 2 2 100 1 210" "8 8" ∷
    refused "count-211-of-105" "3552 105 1" "105 8 64 2 2 100 1 211" "10 7" ∷
    refused "count-211-of-106-allowed" "3584 106 1" "106 8 64 2 2 100 1 211" "8 8" ∷
    refused "count-212-of-106" "3584 106 1" "106 8 64 2 2 100 1 212" "10 7" ∷
    refused "count-211-of-128-allowed" "4288 128 1" "128 8 64 2 2 100 1 211" "8 8" ∷
    refused "count-212-of-128" "4288 128 1" "128 8 64 2 2 100 1 212" "10 7" ∷
    refused "count-211-of-4096-allowed" "131136 4096 1" "4096 0 0 2 2 100 1 211" "8 8" ∷
    refused "count-212-of-4096" "131136 4096 1" "4096 0 0 2 2 100 1 212" "10 7" ∷
    refused "assumptions-count-212-of-106-allowed" "3584 106 110" "106 8 64 2 2 100 2 212" "8 8" ∷
    refused "assumptions-count-213-of-106" "3584 106 110" "106 8 64 2 2 100 2 213" "10 7" ∷
    refused "budget-1000001" "256 2 64" "2 8 64 2 2 100 2 0 1000001" "11 8" ∷
    passes "budget-1000000-passes" "256 2 6" "2 8 64 2 2 100 2 0 1000000" "0 0 2 1 1" ∷
    refused "budget-4294967295" "256 2 64" "2 8 64 2 2 100 2 0 4294967295" "11 8" ∷
    refused "second-budget" "256 2 64" "2 8 64 2 2 100 2 0 1 2 1 0 1000001" "11 12" ∷
    refused "first-record-first" "256 2 64" "2 8 64 2 2 100 2 0 1000001 3" "11 8" ∷
    refused "last-cell-of-first-record-first" "256 2 64" "2 8 64 2 2 100 2 0 1000001 1 9" "11 8" ∷
    refused "out-one-short-for-a-clause" "256 2 0" "2 8 64 2 2 100 1 1 0" "12 1" ∷
    passes "out-just-enough-for-a-clause" "256 2 1" "2 8 64 2 2 100 1 1 0" "1" ∷
    refused "out-one-short-for-a-solve" "256 2 5" "2 8 64 2 2 100 2 0 1" "12 6" ∷
    passes "out-just-enough-for-a-solve" "256 2 6" "2 8 64 2 2 100 2 0 1" "0 0 2 1 1" ∷
    passes "out-for-v-plus-one-literals" "168 1 5" "1 8 8 2 2 100 2 2 0 1 1" "1 0 2 0 1" ∷
    refused "out-for-v-literals-is-short" "168 1 4" "1 8 8 2 2 100 2 2 0 1 1" "12 5" ∷
    refused "out-one-short-for-both" "256 2 13" "2 8 64 2 2 100 1 1 0 2 0 1 1 1 0 2 0 0" "12 14" ∷
    passes "out-just-enough-for-both" "256 2 14" "2 8 64 2 2 100 1 1 0 2 0 1 1 1 0 2 0 0" "1 0 0 2 0 1 1 2 0 1 1" ∷
    refused "records-before-out" "256 2 0" "2 8 64 2 2 100 1 1 0 2 0 1000001" "11 11" ∷
    []

all_hold_2 : failing cases_2 ≡ []
unfolding cases_2 failing
all_hold_2 = refl
