-- How a cell holds a truth value, and the reason of an assignment.
use Rattle.std.specs.Prelude.{ℕ, suc, zero, ◌<◌, ◌≡◌, refl, Option, Some, None, eqb, true, false}
use Rattle.std.proofs.Common.{arith}
use Rattle.model.specs.Lit.{no_reason}
use Rattle.clause.specs.declared.Value.{Value}
use Rattle.clause.specs.declared.Value.TheVariants.{True, False, Undef}

abbrev pub value_at : ℕ → Value
value_at zero = True
value_at (suc zero) = False
value_at (suc (suc n)) = Undef

abbrev pub cell_of : Value → ℕ
cell_of True = 0
cell_of False = 1
cell_of Undef = 2

pub cell_of_value_at : (n : ℕ) → n < 3 → cell_of (value_at n) ≡ n
cell_of_value_at zero h = refl
cell_of_value_at (suc zero) h = refl
cell_of_value_at (suc (suc n)) h = omega arith

abbrev pub reason_at : ℕ → Option ℕ
reason_at cell = elim (eqb cell no_reason) [ true ↦ None | false ↦ Some cell ]

abbrev pub reason_cell : Option ℕ → ℕ
reason_cell None = no_reason
reason_cell (Some c) = c
