-- The sets, as the code goes through them: the lines of each are printed, and the score is kept.
use Rattle.std.specs.Prelude.{◌≡◌, ℕ, ◌+◌, ◌*◌, ◌≤◌}
use mathlib.Core.List.{List, ◌++◌, map}
use Rattle.std.proofs.Math.ListN.{length}
use Rattle.lawbase.specs.Basics.{Every}
use Rattle.text.specs.Prints.{Prints}
use Rattle.smallbooks.specs.declared.Walk.{Walk}
use Rattle.smallbooks.specs.declared.Found.{Found}
use Rattle.smallbooks.specs.Choose.{combinations, of_sizes}
use Rattle.smallbooks.specs.Books.{records_of, solve_record, fresh, all_printed}
use Rattle.smallbooks.specs.Score.{scores}

-- the longest text of a set
abbrev pub longest : ℕ
longest = 34

abbrev pub conflicts_of : List Found → List ℕ
conflicts_of fs = map (λ f. f.conflicts) fs

-- what is found is told, and the script is as it was
pub record Tells (old new : Walk) (fs : List Found) : Type 0 where
  pub script : new.script.items ≡ old.script.items
  pub taken : new.taken ≡ old.taken
  pub lines : Prints old.printer.now new.printer.now (all_printed fs)
  pub score : new.score ≡ scores old.score (conflicts_of fs)
  pub short : length (all_printed fs) ≤ longest * length fs

-- ---- the runs of sets whose first n clauses stand in p already

unfoldable pub run_of : List ℕ → ℕ → List (List ℕ) → Found
run_of p n s = fresh (n + length s) (p ++ (records_of s ++ solve_record))

unfoldable pub runs : List ℕ → ℕ → List (List (List ℕ)) → List Found
runs p n ss = map (run_of p n) ss

-- ---- going through the sets of the clauses in the script and `left` more of those listed

-- there is room for all of it
pub record Choosing (walk : Walk) (listed : List ℕ) (left : ℕ) : Type 0 where
  pub rules : List (List ℕ)
  pub same : listed ≡ records_of rules
  pub small : Every (λ c. length c ≤ 3) rules
  pub cells : length walk.script.items + 5 * left + 3 ≤ 24
  pub clauses : walk.taken + left ≤ 3
  pub sets : walk.score.count + length (combinations left rules) ≤ 4294967295

-- every set is told
pub record Chose (old new : Walk) (listed : List ℕ) (left : ℕ) : Type 0 where
  pub tells : (rules : List (List ℕ)) → listed ≡ records_of rules → Tells old new (runs old.script.items old.taken (combinations left rules))

-- ---- size by size

pub record Listing (walk : Walk) (table : List ℕ) : Type 0 where
  pub rules : List (List ℕ)
  pub same : table ≡ records_of rules
  pub small : Every (λ c. length c ≤ 3) rules
  pub cells : length walk.script.items ≤ 6
  pub none : walk.taken ≡ 0
  pub sets : walk.score.count + length (of_sizes 0 4 rules) ≤ 4294967295

-- the sizes below k are told
pub record Telling (k : ℕ) (old new : Walk) (table : List ℕ) : Type 0 where
  pub tells : (rules : List (List ℕ)) → table ≡ records_of rules → Tells old new (runs old.script.items old.taken (of_sizes 0 k rules))
