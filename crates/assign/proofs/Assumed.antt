-- The first levels are those of the assumptions: each is true there, and no other decision stands on them.
use Rattle.std.specs.Prelude.{◌≡◌, ◌⊎◌, List, ℕ, suc, ◌*◌, ◌-◌, ◌≤◌, ◌<◌, length}
use Rattle.std.proofs.Common.{ap, sym, ◌∙◌, subst, inl, inr}
use native.Mathlib.Omega.{arith}
use Rattle.std.proofs.Math.ListN.{get_or}
use Rattle.model.specs.Lit.{var, no_reason}
use Rattle.model.specs.State.{VarState, State, level_lit, reason_lit, decision_level}
use Rattle.model.specs.Trail.{unchecked_enqueue, new_decision_level, vars_until, cancel_until}
use Rattle.lawbase.specs.Basics.{◌∈◌, split, less?}
use Rattle.lawbase.specs.WellFormed.{Assignment}
use Rattle.assign.specs.Reading.{Unset}
use Rattle.assign.proofs.Reading.{unset-fresh, trail_level}
use Rattle.assign.proofs.Enqueue.{enqueue_level, enqueue_reason, enqueue_limits, enqueue_old, enqueue_new, enqueue_cases, new_level, new_reason}
use Rattle.assign.proofs.Level.{level_more, open_assignment}
use Rattle.assign.proofs.Cancel.{until_level, until_old, until_kept}
use Rattle.assign.proofs.Back.{cancel_cases}
use Rattle.assign.specs.Assumed.{Assumed, Holds}

pub assumed_start : {n : ℕ} {cs : List (List ℕ)} {vs : VarState} → Assignment n cs vs → (assumptions : List ℕ) → decision_level vs ≡ 0
    → Assumed assumptions vs
assumed_start w ps z =
    record { true_at = λ k h b. absurd (omega arith); decision = λ p i r l m. absurd (omega (arith, trail_level w p i)) }

module _ {n : ℕ} {cs : List (List ℕ)} {vs : VarState} (w : Assignment n cs vs) (ps : List ℕ) where
  -- what the levels in front say stays true when p is put on the trail
  module _ (p from : ℕ) (range : p < 2 * n) (u : Unset vs p) where
    holds_more : (q level : ℕ) → Holds vs q level → Holds (unchecked_enqueue vs p from) q level
    holds_more q level h =
        record { on = enqueue_old vs p from q h.on; low = rw (enqueue_level vs p from (var q) (unset-fresh w p u q h.on)) h.low }

    decision_more : ((q : ℕ) → q ∈ vs.trail → reason_lit vs q ≡ no_reason → 0 < level_lit vs q → level_lit vs q ≤ length ps
        → q ≡ get_or ps (level_lit vs q - 1) 0)
        → (from ≡ no_reason → 0 < decision_level vs → decision_level vs ≤ length ps → p ≡ get_or ps (decision_level vs - 1) 0) → (q : ℕ)
        → q ∈ (unchecked_enqueue vs p from).trail
        → reason_lit (unchecked_enqueue vs p from) q ≡ no_reason
        → 0 < level_lit (unchecked_enqueue vs p from) q
        → level_lit (unchecked_enqueue vs p from) q ≤ length ps
        → q ≡ get_or ps (level_lit (unchecked_enqueue vs p from) q - 1) 0
    decision_more d g q i = go (enqueue_cases vs p from q i)
      where
        go : (q ∈ vs.trail) ⊎ (q ≡ p) → reason_lit (unchecked_enqueue vs p from) q ≡ no_reason → 0 < level_lit (unchecked_enqueue vs p from) q
            → level_lit (unchecked_enqueue vs p from) q ≤ length ps → q ≡ get_or ps (level_lit (unchecked_enqueue vs p from) q - 1) 0
        go (inl j) r l m =
            let f = unset-fresh w p u q j in
            let e = enqueue_level vs p from (var q) f in
            rw e (d q j (sym (enqueue_reason vs p from (var q) f) ∙ r) (rw e at l) (rw e at m))
        go (inr e) r l m =
            let x : level_lit (unchecked_enqueue vs p from) q ≡ decision_level vs =
            ap (λ y. level_lit (unchecked_enqueue vs p from) y) e ∙ new_level w p from range in
            let y : from ≡ no_reason = sym (new_reason w p from range) ∙ ap (λ y. reason_lit (unchecked_enqueue vs p from) y) (sym e) ∙ r in
            rw x (e ∙ g y (rw x at l) (rw x at m))

    pub assumed_enqueue : (from ≡ no_reason → 0 < decision_level vs → decision_level vs ≤ length ps → p ≡ get_or ps (decision_level vs - 1) 0)
        → Assumed ps vs → Assumed ps (unchecked_enqueue vs p from)
    assumed_enqueue g v =
        let e = enqueue_limits vs p from in
        record {
          true_at = λ k h b. holds_more (get_or ps k 0) (suc k) (v.true_at k h (rw e at b));
          decision = decision_more v.decision g;
        }

  -- a level without a decision: of an assumption that is true already, or behind all assumptions
  pub assumed_empty : (decision_level vs < length ps → get_or ps (decision_level vs) 0 ∈ vs.trail) → Assumed ps vs → Assumed ps (new_decision_level vs)
  unfolding new_decision_level
  assumed_empty g v =
      let m = level_more vs in
      record {
        true_at = λ k h b.
            split (less? k (decision_level vs)) (λ (l : k < decision_level vs). let t = v.true_at k h l in record { on = t.on; low = t.low })
            (λ (l : decision_level vs ≤ k).
            let e : k ≡ decision_level vs = omega arith in
            let i : get_or ps k 0 ∈ vs.trail = rw e (g (omega arith)) in
            record { on = i; low = omega (arith, trail_level w (get_or ps k 0) i) });
        decision = v.decision;
      }

holds_opened : (vs : VarState) (q level : ℕ) → Holds vs q level → Holds (new_decision_level vs) q level
unfolding new_decision_level
holds_opened vs q level h = record { on = h.on; low = h.low }

module _ {n : ℕ} {cs : List (List ℕ)} {vs : VarState} (w : Assignment n cs vs) (ps : List ℕ) where
  module _ (p : ℕ) (range : p < 2 * n) (u : Unset vs p) (g : decision_level vs < length ps → p ≡ get_or ps (decision_level vs) 0) where
    unset-opened : Unset (new_decision_level vs) p
    unfolding new_decision_level
    unset-opened = u

    holds_new : (k : ℕ) → k ≡ decision_level vs → k < length ps → Holds (unchecked_enqueue (new_decision_level vs) p no_reason) (get_or ps k 0) (suc k)
    holds_new k e h =
        let x : p ≡ get_or ps k 0 = g (omega arith) ∙ ap (λ j. get_or ps j 0) (sym e) in
        let l = new_level (open_assignment w) p no_reason range in
        subst (λ q. Holds (unchecked_enqueue (new_decision_level vs) p no_reason) q (suc k)) x
        (record { on = enqueue_new (new_decision_level vs) p no_reason; low = omega (arith, level_more vs) })

    decision_opened : Assumed ps vs → (q : ℕ) → q ∈ (new_decision_level vs).trail → reason_lit (new_decision_level vs) q ≡ no_reason
        → 0 < level_lit (new_decision_level vs) q → level_lit (new_decision_level vs) q ≤ length ps
        → q ≡ get_or ps (level_lit (new_decision_level vs) q - 1) 0
    unfolding new_decision_level
    decision_opened v = v.decision

    -- a level opened by its assumption, or behind all assumptions
    pub assumed_open : Assumed ps vs → Assumed ps (unchecked_enqueue (new_decision_level vs) p no_reason)
    assumed_open v =
        let m = level_more vs in
        let e = enqueue_limits (new_decision_level vs) p no_reason in
        record {
          true_at = λ k h b.
              split (less? k (decision_level vs))
              (λ (l : k < decision_level vs).
              holds_more (open_assignment w) ps p no_reason range unset-opened (get_or ps k 0) (suc k)
              (holds_opened vs (get_or ps k 0) (suc k) (v.true_at k h l)))
              (λ (l : decision_level vs ≤ k). holds_new k (omega (arith, rw e at b)) h);
          decision = decision_more (open_assignment w) ps p no_reason range unset-opened (decision_opened v)
              (λ a b c. g (omega arith) ∙ ap (λ j. get_or ps j 0) (omega arith));
        }

  pub assumed_until : (level : ℕ) → level < decision_level vs → Assumed ps vs → Assumed ps (vars_until vs level)
  unfolding vars_until
  assumed_until level low v =
      let m = until_level w level low in
      record {
        true_at = λ k h b. let t = v.true_at k h (omega arith) in holds_until (get_or ps k 0) (suc k) (omega arith) t;
        decision = decision_until;
      }
    where
      holds_until : (q l : ℕ) → l ≤ level → Holds vs q l → Holds (vars_until vs level) q l
      holds_until q l h t = record { on = until_kept w level low q t.on (omega (arith, t.low)); low = t.low }

      decision_until : (p : ℕ) → p ∈ (vars_until vs level).trail → reason_lit (vars_until vs level) p ≡ no_reason
          → 0 < level_lit (vars_until vs level) p → level_lit (vars_until vs level) p ≤ length ps
          → p ≡ get_or ps (level_lit (vars_until vs level) p - 1) 0
      decision_until p i r l = v.decision p (until_old w level low p i).0 r l

pub assumed_cancel : (phase : ℕ) (s : State) (level : ℕ) {n : ℕ} {cs : List (List ℕ)} → Assignment n cs s.vars → (ps : List ℕ)
    → Assumed ps s.vars → Assumed ps (cancel_until phase s level).vars
assumed_cancel phase s level w ps v =
    cancel_cases phase s level (λ r. Assumed ps r.vars) (λ h. v) (λ h. assumed_until w ps level h v)
