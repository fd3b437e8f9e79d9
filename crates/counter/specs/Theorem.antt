-- At most k: values of the literals extend to a model of the clauses if and only if at most k of the literals are true. Rows, and what holds in them, are the book's.
use Rattle.std.specs.Prelude.{ℕ, zero, suc, ◌+◌, ◌≤◌, ◌≡◌, ◌↔◌, List, [], ◌∷◌, get_or, T}
use Rattle.model.specs.Lit.{var}
use Rattle.model.specs.Book.{holds, is_row, is_model}
use Rattle.lawbase.specs.Basics.{Every}
use Rattle.lawbase.specs.WellFormed.{bit}
use Rattle.counter.specs.Counter.{at_most}

-- how many of the literals are true in a row
unfoldable pub true_in : List ℕ → List ℕ → ℕ
true_in row [] = 0
true_in row (l ∷ ls) = bit (holds row l) + true_in row ls

-- two rows give the literals the same values
abbrev pub SameValues : List ℕ → List ℕ → List ℕ → Type 0
SameValues row row' ls = Every (λ l. get_or row' (var l) 2 ≡ get_or row (var l) 2) ls

-- Values of the literals extend to a model of the clauses if and only if at most k are true.
abbrev pub Exactly : ℕ → List ℕ → ℕ → ℕ → Type 0
Exactly v ls k first =
    (row : List ℕ) → T (is_row v row) → ((row' : List ℕ) × T (is_row v row') × SameValues row row' ls × T (is_model row' (at_most k first ls))) ↔ (true_in row ls ≤ k)

-- ---- a row that is a function, as a list

-- its values from variable i on
unfoldable pub listed : (ℕ → ℕ) → ℕ → ℕ → List ℕ
listed ρ i zero = []
listed ρ i (suc m) = ρ i ∷ listed ρ (suc i) m
