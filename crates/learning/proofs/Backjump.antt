-- The way back to a level keeps the literals of the levels up to it, and unsets the others. So the clause learnt is unit there.
use Rattle.std.specs.Prelude.{◌≡◌, ◌≢◌, List, reverse, ℕ, ◌≤◌, ◌<◌, take}
use Rattle.std.proofs.Math.Path.{refl}
use Rattle.std.proofs.Common.{sym, arith}
use mathlib.Core.List.Memᴰ.{append_right as in_right}
use Rattle.model.specs.Lit.{var, neg}
use Rattle.model.specs.State.{Store, VarState, decision_level, level_lit}
use Rattle.model.specs.Trail.{level_end, vars_until}
use Rattle.lawbase.specs.Basics.{◌∈◌, Every, split, var-neg}
use Rattle.lawbase.specs.WellFormed.{Assignment}
use Rattle.learning.proofs.Trail.{once, in_reverse, from_reverse}
use Rattle.learning.specs.Parts.{upper, base}
use Rattle.learning.proofs.Parts.{parts, part_of, upper_level, base_level}
use Rattle.learning.specs.Analyzed.{Analyzed}

module _ (n : ℕ) (cs : List (List ℕ)) (vs : VarState) (a : Assignment n cs vs) (k : ℕ) (h : k < decision_level vs) where
  abbrev e : ℕ
  e = level_end vs k

  pub stays_set : (p : ℕ) → p ∈ vs.trail → level_lit vs p ≤ k → p ∈ (vars_until vs k).trail
  unfolding vars_until
  stays_set p i l = split (part_of n cs vs a k h e refl p i)
      (λ j. absurd (omega (arith, upper_level n cs vs a k h e refl p j)))
      (λ j. from_reverse (take e vs.trail) j)

  pub goes_unset : (p : ℕ) → p ∈ vs.trail → k < level_lit vs p → Every (λ q. var q ≢ var p) (vars_until vs k).trail
  unfolding vars_until
  goes_unset p i l q j c =
      let b : q ∈ base vs e = in_reverse (take e vs.trail) j in
      let s : p ≡ q = once n cs vs (reverse vs.trail) a.entries p q (in_reverse vs.trail i)
      (rw (parts n cs vs a k h e refl) (in_right (upper vs e) b)) (sym c) in
      omega (arith, base_level n cs vs a k h e refl p (rw s b))

-- after the way back, the first literal of the clause is unset, and the others are false
module _ (n : ℕ) (st : Store) (vs : VarState) (a : Assignment n st.clauses vs) (clause : List ℕ) (level : ℕ) (c : Analyzed n st vs clause level) where
  pub rest_false : Every (λ q. neg q ∈ (vars_until vs level).trail) c.rest
  rest_false q i = stays_set n st.clauses vs a level c.lower (neg q) (c.falsified q i) (rw var-neg (c.below q i))

  pub uip-unset : Every (λ q. var q ≢ var c.uip) (vars_until vs level).trail
  uip-unset = goes_unset n st.clauses vs a level c.lower c.uip c.uip_set (rw c.uip_top c.lower)
