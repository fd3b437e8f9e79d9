use Rattle.std.specs.Prelude.{ℕ, ◌+◌, ◌%◌, ◌≡◌, Bool, true, false, List, eqb, get_or}
use Rattle.std.proofs.Common.{arith, refl, sym, ◌∙◌}
use Rattle.std.proofs.lemmas.Bool.{eqb-false}
use Rattle.model.specs.Lit.{var, sign, value_for, l_true, l_false, l_undef}
use Rattle.trail.proofs.Trail.lit_value.Goals as goal

-- what is neither true nor false has no value
no_value : (x l : ℕ) → eqb (value_for x l) l_true ≡ false → eqb (value_for x l) l_false ≡ false → l_undef ≡ value_for x l
no_value x l t f = go (eqb x l_undef) refl
  where
    go : (b : Bool) → eqb x l_undef ≡ b → l_undef ≡ value_for x l
    go true e = rw (e, value_for) refl
    go false e =
        let y : value_for x l ≡ (x + sign l) % 2 = rw (e, value_for) refl in
        absurd (omega (arith, y, eqb-false (value_for x l) l_true t, eqb-false (value_for x l) l_false f))

pub returns : goal.returns
returns c =
    let p = c.args.p.0 in
    no_value (get_or c.args.self.now.vars.values (var p) 0) p (sym c.is_true.ensures ∙ c.if-is_true.false) (sym c.is_false.ensures ∙ c.if-is_false.false)
