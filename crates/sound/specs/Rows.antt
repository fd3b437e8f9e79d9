-- The book's rows, which are lists, as the rows of the laws, which are functions.
use Rattle.std.specs.Prelude.{List, ℕ, get_or}

abbrev pub row_of : List ℕ → ℕ → ℕ
row_of row v = get_or row v 0
