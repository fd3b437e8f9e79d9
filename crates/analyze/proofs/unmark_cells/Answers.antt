use Rattle.std.proofs.Common.{ℕ, List, get_or, length, arith, ap}
use Rattle.model.specs.Lit.{var}
use Rattle.analyze.specs.Unmarking.{marks_lits, left_less, left_none}
use Rattle.analyze.proofs.unmark_cells.Goals as goal

pub unset-requires : goal.unset-requires
unset-requires c =
    let e = c.rest-l-items.ensures in
    let h = marks_lits _ _ _ c.requires c.loop-l.l-index (omega (arith, ap (λ (xs : List ℕ). length xs) e)) in
    omega (arith, c.loop-l.invariant.sized, c.var.ensures, ap (λ (xs : List ℕ). var (get_or xs c.loop-l.l-index 0)) e, h)

pub loop-l-preserved : goal.loop-l-preserved
loop-l-preserved c = rw (c.unset.ensures, c.var.ensures) (left_less _ _ _ _ c.loop-l.invariant (omega arith))

pub returns : goal.returns
returns c = left_none _ _ _ _ c.loop-l.invariant (omega arith)
