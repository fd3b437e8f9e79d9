-- The clauses, as the code picks them literal by literal and puts their records into a table.
use Rattle.std.specs.Prelude.{◌≡◌, List, [], ◌∷◌, ◌++◌, map, ℕ, ◌+◌, ◌-◌, ◌≤◌, length}
use Rattle.smallbooks.specs.Choose.{combinations, of_sizes}
use Rattle.smallbooks.specs.Books.{upward, literals, apart, filter, records_of}

-- ---- a clause that is kept, or not

-- the record of c, if it has no variable twice
unfoldable pub if_apart : List ℕ → List ℕ
if_apart c = records_of (filter apart (c ∷ []))

-- ---- the clauses of the literals p and k more, each from l to end - 1

unfoldable pub picked : List ℕ → ℕ → ℕ → ℕ → List ℕ
picked p k l end = records_of (filter apart (map (λ c. p ++ c) (combinations k (upward l (end - l)))))

-- the cells of the table: as many as the records of the clauses of three variables have
abbrev pub table_cells : ℕ
table_cells = 112

-- before the picking: there is room
pub record Picking (l end left : ℕ) (chosen table : List ℕ) : Type 0 where
  pub from : l ≤ end
  pub literals : length chosen + left ≤ 3
  pub room : length table + length (picked chosen left l end) ≤ table_cells

-- ---- length by length

-- the records of the clauses of up to k literals
unfoldable pub gathered : ℕ → ℕ → List ℕ
gathered v k = records_of (filter apart (of_sizes 1 k (literals v)))

-- between two lengths
pub record Gathering (v k : ℕ) (chosen table : List ℕ) : Type 0 where
  pub none : chosen ≡ []
  pub cells : table ≡ gathered v (k - 1)
