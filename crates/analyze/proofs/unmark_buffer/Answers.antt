use Rattle.std.proofs.Common.{ℕ, List, get_or, length, arith, ap}
use Rattle.model.specs.Lit.{var}
use Rattle.analyze.specs.Unmarking.{marks_lits, left_less, left_none}
use Rattle.analyze.proofs.unmark_buffer.Goals as goal

pub unset-requires : goal.unset-requires
unset-requires c =
    let e = c.rest-q-items.ensures in
    let h = marks_lits _ _ _ c.requires c.loop-q.q-index (omega (arith, ap (λ (xs : List ℕ). length xs) e)) in
    omega (arith, c.loop-q.invariant.sized, c.var.ensures, ap (λ (xs : List ℕ). var (get_or xs c.loop-q.q-index 0)) e, h)

pub loop-q-preserved : goal.loop-q-preserved
loop-q-preserved c = rw (c.unset.ensures, c.var.ensures) (left_less _ _ _ _ c.loop-q.invariant (omega arith))

pub returns : goal.returns
returns c = left_none _ _ _ _ c.loop-q.invariant (omega arith)
