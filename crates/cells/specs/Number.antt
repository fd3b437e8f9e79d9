-- The cells that a solve's verdict and its cause are written as.
use Rattle.std.specs.Prelude.{ℕ, zero, suc, Option, None, Some}
use Rattle.model.specs.Lit.{l_true, l_false, l_undef}
use Rattle.model.specs.Search.{cause_budget, cause_no_storage}
use Rattle.cells.specs.declared.Verdict.{Verdict}
use Rattle.cells.specs.declared.Verdict.TheVariants.{True, False, Undef}
use Rattle.cells.specs.declared.Cause.{Cause}
use Rattle.cells.specs.declared.Cause.TheVariants.{Budget, Storage}

abbrev pub verdict_cell : Verdict → ℕ
verdict_cell True = l_true
verdict_cell False = l_false
verdict_cell Undef = l_undef

-- the verdict of a cell
abbrev pub verdict_of : ℕ → Option Verdict
verdict_of zero = Some True
verdict_of (suc zero) = Some False
verdict_of (suc (suc zero)) = Some Undef
verdict_of _ = None

abbrev pub cause_cell : Cause → ℕ
cause_cell Budget = cause_budget
cause_cell Storage = cause_no_storage
