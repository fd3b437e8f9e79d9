use mathlib.Core.Path.{sym, subst}
use mathlib.Core.List.{List, [], ◌∷◌}
use Prim.Native.Nat.{ℕ, ◌+◌}
use native.Mathlib.Omega.{arith}
use lib.ListN.{length}
use Rattle.counter.specs.Wrote.{Wrote}
use Rattle.counter.proofs.Wrote.{one_record}
use Rattle.counter.proofs.clauses.Writer.put.Goals as goal

pub returns-clause-wrote : goal.returns-clause-wrote
returns-clause-wrote c =
    let a = c.args in
    let w = a.self.now in
    subst (λ (out : List ℕ). Wrote w.out.now w.at (a.c.now ∷ []) out (w.at + (2 + length a.c.now))) (sym c.put.ensures)
    (one_record w.out.now w.at a.c.now (omega arith))
