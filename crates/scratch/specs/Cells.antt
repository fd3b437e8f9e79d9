-- Every cell of a list's slice shows. The value of marks is their slice.
use Rattle.std.specs.Prelude.{ℕ, ◌≡◌, List}
use Rattle.std.proofs.Common.{ap}
use Rattle.scratch.specs.Row.{Row, row}

-- two slices that show the same are the same
pub all_shown : (n n' : ℕ) (cells cells' : List ℕ) → row n cells ≡ row n' cells' → cells ≡ cells'
all_shown n n' cells cells' e = ap (λ (r : Row). r.cells) e
