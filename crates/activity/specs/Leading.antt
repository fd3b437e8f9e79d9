-- The pick from the first unset variable on, with the best one's activity kept beside it.
use Rattle.std.specs.Prelude.{ℕ, zero, suc, ◌+◌, ◌≤◌, ◌<◌, ◌≡◌, refl, false, List, length, get_or, drop, eqb, position, ◌==◌, Float}
use Rattle.std.proofs.Common.{arith, add-one, sym, subst, ◌∙◌, lt-ltb}
use Rattle.std.specs.List.{position_or_len}
use Rattle.std.proofs.lemmas.List.Sums.{fails_before_first}
use Rattle.std.proofs.lemmas.List.Quantifiers.{position-Some}
use Rattle.std.proofs.lemmas.Option.{none-some}
use Rattle.std.proofs.Math.Decide.{dec_lt}
use Rattle.std.specs.Prelude.{Option, None as none, Some as some}
use Rattle.std.specs.Float.{nan}
use Rattle.model.specs.Lit.{l_undef}
use Rattle.model.specs.Decide.{pick}
use Rattle.model.specs.Limits.{max_variables}
use Rattle.activity.specs.declared.Best.{Best}
use Rattle.clause.specs.declared.Var.{Var}
use Rattle.activity.specs.Pick.{better, pick_more, pick_last}

-- there is an activity for each variable
pub record Sizes (values : List ℕ) (act : List Float) : Type 0 where
  pub most : length values ≤ max_variables
  pub fits : length values ≤ length act

-- b is a variable, with its activity
pub record Leads (act : List Float) (values : List ℕ) (b : Best) : Type 0 where
  pub var : b.var.0 < length values
  pub top : b.top ≡ get_or act b.var.0 nan

-- what is picked
abbrev pub var_of : Option Var → Option ℕ
var_of (some v) = some v.0
var_of none = none

module _ (act : List Float) (values : List ℕ) where
  -- the set variables are passed by
  passed : (k : ℕ) → k ≤ length values → ((v : ℕ) → v < k → eqb (get_or values v 0) l_undef ≡ false) → pick act none k (drop k values) ≡ pick act none 0 values
  passed zero h s = refl
  passed (suc k) h s =
      let stays : none ≡ better act none k (get_or values k 0) = rw (s k (omega arith), better) in
      subst (λ (i : ℕ). pick act none i (drop i values) ≡ pick act none 0 values) (add-one k) (pick_more act values none none k (omega arith) stays ∙ passed k (omega arith) (λ v g. s v (omega arith)))

  pub none_unset : position (λ x. x == l_undef) values ≡ none → none ≡ pick act none 0 values
  none_unset e = go (position_or_len (λ x. x == l_undef) values) refl (dec_lt (position_or_len (λ x. x == l_undef) values) (length values))
    where
      go : (k : ℕ) → position_or_len (λ x. x == l_undef) values ≡ k → Dec (k < length values) → none ≡ pick act none 0 values
      go k q (yes h) = absurd (none-some k (sym e ∙ rw (q, lt-ltb k (length values) h)))
      go k q (no h) =
          sym (pick_last act values none (length values) (omega arith))
          ∙ passed (length values) (omega arith) (λ v g. fails_before_first (λ x. x == l_undef) values v 0 (omega (arith, q)))

  pub from_first : (r : ℕ) → position (λ x. x == l_undef) values ≡ some r → (r < length values) × (pick act (some r) (r + 1) (drop (r + 1) values) ≡ pick act none 0 values)
  from_first r e =
      let f = position-Some (λ x. x == l_undef) values r 0 e in
      let takes : some r ≡ better act none r (get_or values r 0) = rw (f.1, better) in
      (f.0, pick_more act values none (some r) r f.0 takes ∙ passed r (omega arith) f.2)
