-- What a cell says of a record's kind, and of a solve's answer.
use Rattle.std.specs.Prelude.{ℕ, zero, suc, Option, None, Some}
use Rattle.script.specs.declared.Kind.{Kind}
use Rattle.script.specs.declared.Kind.TheVariants.{Clause, Solve}
use Rattle.cells.specs.declared.Verdict.{Verdict}
use Rattle.cells.specs.Number.{verdict_cell}
pub use Rattle.cells.specs.Number.{verdict_of}

-- any number but a solve's is a clause's
abbrev pub kind_of : ℕ → Kind
kind_of (suc (suc zero)) = Solve
kind_of _ = Clause

-- the cell that stands for it; any number from 3 on is no verdict's
abbrev pub cell_of : Option Verdict → ℕ
cell_of (Some verdict) = verdict_cell verdict
cell_of None = 3
