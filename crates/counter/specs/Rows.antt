-- The rows of a call's judgement in the parts that the code judges by.
use Rattle.std.specs.Prelude.{ℕ, List, [], ◌∷◌, length, leb}
use Rattle.model.specs.Limits as Limits
use Rattle.model.specs.Script.{Row, row}
use Rattle.model.specs.Book.{all, in_range_of}
use Rattle.script.specs.Front.{from_one}
use Rattle.counter.specs.Counter.{at_most, helpers, cells, max_count, distinct, apart, helpers_fit}

abbrev pub call_rows : ℕ → List ℕ → List Row
call_rows v ls = row 2 (from_one v Limits.max_variables) 0 ∷ row 18 (from_one (length ls) max_count) 0 ∷ row 18 (all (in_range_of v) ls) 0 ∷ []

abbrev pub name_rows : ℕ → List ℕ → ℕ → ℕ → List Row
name_rows v ls k first =
    row 19 (distinct ls) 0
    ∷ row 19 (all (apart first (helpers k (length ls))) ls) 0
    ∷ row 19 (helpers_fit v first (helpers k (length ls))) 0
    ∷ []

abbrev pub room_rows : List ℕ → ℕ → ℕ → ℕ → List Row
room_rows ls k first room = row 20 (leb (length (cells (at_most k first ls))) room) (length (cells (at_most k first ls))) ∷ []
