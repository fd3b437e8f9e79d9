-- Levels along a trace: they do not rise, so that the conflict's level is never met below it; and what is traced to a clause is on a level of it.
use Rattle.std.specs.Prelude.{◌≡◌, refl, ◌≢◌, ◌↔◌, List, ◌∷◌, ℕ, ◌≤◌, ◌<◌}
use Rattle.std.proofs.Common.{ap, subst, arith}
use mathlib.Core.List.Memᴰ.{head as here}
use mathlib.Core.List.Memᴰ.{tail as there}
use Rattle.model.specs.Lit.{neg, no_reason}
use Rattle.model.specs.State.{Store, VarState, level_lit, reason_lit, reason_rest}
use Rattle.lawbase.specs.Basics.{◌∈◌, Every, split, less?, var-neg}
use Rattle.lawbase.specs.WellFormed.{Entries}
use Rattle.learning.proofs.Trail.{caused, sorted}
use Rattle.learning.proofs.Trace.{fit_reason}
use Rattle.watching.specs.Covered.{Tied}
use Rattle.mask.specs.Traceable.{Traced, at_zero, at_end, through, Other, Traceable}
use Rattle.mask.specs.Bits.{full}
use Rattle.mask.proofs.Bits.{full_passes}
use Rattle.mask.proofs.Back.{traced_more, stands, Lets}

-- t is the trail, newest first
module _ (n : ℕ) (st : Store) (vs : VarState) (t : List ℕ) (w : Entries n st.clauses vs t) (clause : List ℕ) where
  -- ---- the clause's own mask

  -- a literal of the clause on that level
  pub record OnLevel (k : ℕ) : Type 0 where
    pub literal : ℕ
    pub member : literal ∈ clause
    pub level : level_lit vs literal ≡ k

  module _ (tied : Every (Tied st.clauses vs) t) where
    -- an implied literal has another one of its level in its reason (`Tied`): so on along the trace, to a literal of the clause
    pub level_of_one : (q : ℕ) → neg q ∈ t → 0 < level_lit vs q → Traced st vs (λ r. r ∈ clause) q → OnLevel (level_lit vs q)
    level_of_one q i z (at_zero e) = absurd (omega arith)
    level_of_one q i z (at_end b) = record { literal = q; member = b; level = refl }
    level_of_one q i z (through c f) =
        let x = tied (neg q) i (rw var-neg c) in
        let j : x.literal ∈ reason_rest st vs q = rw var-neg at x.member in
        let e : level_lit vs x.literal ≡ level_lit vs q = rw var-neg at x.level in
        let k = fit_reason n st vs t w q (record { falsified = i; above = z; caused = c }) x.literal j in
        subst OnLevel e (level_of_one x.literal k (omega (arith, e)) (f x.literal j))

  pub full_lets : Lets n st vs t w clause full
  full_lets q i z r = full_passes vs q

  -- ---- a literal u in front of the clause, on a higher level: the UIP's

  -- no literal of a reason is above the literal that it implies
  reason_levels : (q : ℕ) → neg q ∈ t → 0 < level_lit vs q → reason_lit vs q ≢ no_reason
      → Every (λ r. (neg r ∈ t) × (level_lit vs r ≤ level_lit vs q)) (reason_rest st vs q)
  reason_levels q i z c r j =
      let s = stands n st vs t w clause q i in
      let k : r ∈ reason_rest st vs (neg q) = rw var-neg j in
      let d : reason_lit vs (neg q) ≢ no_reason = rw var-neg c in
      let o = (caused s.entry.grounds d).false_rest r k in
      let l = sorted n st.clauses vs (neg q) s.older (s.entry, s.entries) (neg r) o in
      (s.on (neg r) o, rw (var-neg r, var-neg q) at l)

  module _ (u : ℕ) where
    behind : (r : ℕ) → r ∈ (u ∷ clause) → level_lit vs r < level_lit vs u → r ∈ clause
    behind r (here e) h = absurd (omega (arith, ap (level_lit vs) e))
    behind r (there i) h = i

    below : (q r : ℕ) → neg r ∈ t → level_lit vs r < level_lit vs u → Traced st vs (Other (u ∷ clause) q) r → Traced st vs (Other clause q) r
    below q r i h (at_zero e) = at_zero e
    below q r i h (at_end b) = at_end (behind r b.0 h, b.1)
    below q r i h (through c f) = split (less? 0 (level_lit vs r))
        (λ z. through c (λ x j. let k = reason_levels r i z c x j in below q x k.0 (omega (arith, k.1)) (f x j)))
        (λ z. at_zero (omega arith))

    -- it makes no difference to what can be traced
    pub first_aside : (q : ℕ) → neg q ∈ t → level_lit vs q < level_lit vs u → Traceable st vs (u ∷ clause) q ↔ Traceable st vs clause q
    first_aside q i h = (below q q i h, traced_more (λ x b. (there b.0, b.1)))
