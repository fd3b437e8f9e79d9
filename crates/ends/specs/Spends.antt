-- The conflicts of a whole run: each but the last of a solve takes some credit, and no record gives any back.
use Rattle.std.specs.Prelude.{true, false}
use mathlib.Core.List.{List, [], ◌∷◌}
use Prim.Native.Nat.{ℕ, ◌+◌}
use Rattle.std.proofs.Math.ListN.{get_or}
use Rattle.model.specs.Script.{Config, Record, clause, solve}
use Rattle.model.specs.State.{State, Solver}
use Rattle.model.specs.Run.{step}
use Rattle.ends.specs.Credit.{credit}

-- what a state may still spend: nothing, once the clauses are known to have no model
unfoldable pub worth : Config → State → ℕ
worth cfg s = elim s.ok [ true ↦ credit cfg s | false ↦ 0 ]

-- ---- a record

-- the conflicts that an answer tells
unfoldable pub told_conflicts : Record → List ℕ → ℕ
told_conflicts (clause c) answer = 0
told_conflicts (solve ps budget) answer = get_or answer 1 0

-- how many solves a record is
unfoldable pub solve_count : Record → ℕ
solve_count (clause c) = 0
solve_count (solve ps budget) = 1

-- ---- a run

-- the conflicts of its solves, by their answers
unfoldable pub run_conflicts : Config → List Record → Solver → ℕ
run_conflicts cfg [] x = 0
run_conflicts cfg (r ∷ rs) x = told_conflicts r (step cfg r x).answer + run_conflicts cfg rs (step cfg r x).solver

unfoldable pub solves : List Record → ℕ
solves [] = 0
solves (r ∷ rs) = solve_count r + solves rs
