use Rattle.std.proofs.Common.{sym, refl, ◌≡◌, ◌∙◌, ℕ, true, false, eqb, eqb-true}
use Rattle.std.proofs.lemmas.Bool.{eqb-false}
use denote.Enum.Bare.{sameb}
use Rattle.clause.specs.declared.Value.{Value}
use Rattle.clause.specs.contracts.Value.{the_type}
use Rattle.clause.specs.Cells.{cell_of}
use Rattle.intake.specs.Simplifying.{turned_true, turned_opposite, turned_false, turned_again, turned_stays}
use Rattle.intake.proofs.judge.Goals as goal
use Rattle.intake.proofs.judge.Goals.{then-eq-via-then-eq, then-eq-via-else-eq+then-eq-2, then-eq-3-via-then-eq-3, then-eq-3-via-else-eq-3+then-eq-4}

-- values are the same where their cells are
same_cell : (v w : Value) → sameb the_type v w ≡ eqb (cell_of v) (cell_of w)
same_cell Value.True Value.True = refl
same_cell Value.True Value.False = refl
same_cell Value.True Value.Undef = refl
same_cell Value.False Value.True = refl
same_cell Value.False Value.False = refl
same_cell Value.False Value.Undef = refl
same_cell Value.Undef Value.True = refl
same_cell Value.Undef Value.False = refl
same_cell Value.Undef Value.Undef = refl

module _ (v w : Value) (x : ℕ) (e : cell_of v ≡ x) where
  is_cell : true ≡ sameb the_type v w → x ≡ cell_of w
  is_cell t = sym e ∙ eqb-true (cell_of v) (cell_of w) (sym (same_cell v w) ∙ sym t)

  not_cell : false ≡ sameb the_type v w → x ≡ cell_of w → ⊥
  not_cell t z = eqb-false (cell_of v) (cell_of w) (sym (same_cell v w) ∙ sym t) (e ∙ z)

other : (a b k : ℕ) → false ≡ eqb a b → b ≡ k → a ≡ k → ⊥
other a b k t e z = eqb-false a b (sym t) (z ∙ sym e)

pub returns-then-eq : goal.returns-then-eq
returns-then-eq c =
    elim c.then-eq.branch [
      | then-eq-via-then-eq w ↦ turned_true _ _ _ (is_cell _ Value.True _ c.lit_value-v.ensures w.if-eq.ensures)
      | then-eq-via-else-eq+then-eq-2 w ↦ turned_opposite _ _ _ (eqb-true _ _ (sym w.if-eq-2.ensures) ∙ w.negate.ensures)
    ]

pub returns-then-eq-3 : goal.returns-then-eq-3
returns-then-eq-3 c =
    let n = not_cell _ Value.True _ c.lit_value-v.ensures c.if-eq.ensures in
    let o = other _ _ _ c.if-eq-2.ensures c.negate.ensures in
    elim c.then-eq-3.branch [
      | then-eq-3-via-then-eq-3 w ↦ turned_false _ _ _ n o (is_cell _ Value.False _ c.lit_value-v.ensures w.if-eq-3.ensures)
      | then-eq-3-via-else-eq-3+then-eq-4 w ↦ turned_again _ _ _ n o (eqb-true _ _ (sym w.if-eq-4.ensures))
    ]

pub returns : goal.returns
returns c =
    turned_stays _ _ _ (not_cell _ Value.True _ c.lit_value-v.ensures c.if-eq.ensures) (other _ _ _ c.if-eq-2.ensures c.negate.ensures)
    (not_cell _ Value.False _ c.lit_value-v.ensures c.if-eq-3.ensures) (other _ _ _ c.if-eq-4.ensures refl)
