-- How many levels there are: from some number on, each level holds a literal, so the trail bounds them.
use Rattle.std.specs.Prelude.{◌≡◌, List, ℕ, suc, zero, ◌+◌, ◌-◌, ◌≤◌, ◌<◌, length, get_or}
use Rattle.std.proofs.Common.{ap, subst, arith}
use Rattle.model.specs.State.{VarState, State, decision_level}
use Rattle.model.specs.Trail.{unchecked_enqueue, new_decision_level, vars_until, cancel_until}
use Rattle.lawbase.specs.Basics.{split, less?}
use Rattle.lawbase.specs.WellFormed.{Assignment}
use Rattle.assign.proofs.Reading.{trail_length}
use Rattle.assign.proofs.Enqueue.{enqueue_length, enqueue_limits}
use Rattle.assign.proofs.Level.{level_more, level_old, level_new, level_trail}
use Rattle.assign.proofs.Cancel.{until_level, until_length, until_limit}
use Rattle.assign.proofs.Back.{cancel_cases}
use Rattle.assign.specs.Levels.{Levels}

pub levels_start : (a : ℕ) (vs : VarState) → decision_level vs ≡ 0 → Levels a vs
levels_start a vs z = record { between = λ k h b. absurd (omega arith); last = λ k h b. absurd (omega arith) }

-- the same limits, and a trail as long or longer
pub levels_longer : (a : ℕ) (vs vs' : VarState) → vs'.limits ≡ vs.limits → length vs.trail ≤ length vs'.trail → Levels a vs → Levels a vs'
levels_longer a vs vs' e h w =
    record {
      between = λ k b c. rw e (w.between k b (rw e at c));
      last = λ k b c. rw e (omega (arith, w.last k b (rw e at c)));
    }

pub levels_enqueue : (a : ℕ) (vs : VarState) (p from : ℕ) → Levels a vs → Levels a (unchecked_enqueue vs p from)
levels_enqueue a vs p from =
    levels_longer a vs (unchecked_enqueue vs p from) (enqueue_limits vs p from) (omega (arith, enqueue_length vs p from))

module _ (a : ℕ) (vs : VarState) where
  opened_between : Levels a vs → (k : ℕ) → a ≤ k → suc k < decision_level (new_decision_level vs)
      → get_or (new_decision_level vs).limits k 0 < get_or (new_decision_level vs).limits (suc k) 0
  opened_between w k b c =
      let m = level_more vs in
      split (less? (suc k) (decision_level vs))
      (λ (l : suc k < decision_level vs). rw (level_old vs k (omega arith), level_old vs (suc k) l) (w.between k b l))
      (λ (l : decision_level vs ≤ suc k).
      let e : suc k ≡ decision_level vs = omega arith in
      rw (level_old vs k (omega arith), e, level_new vs) (w.last k b e))

  -- an empty level, in front of the a-th
  pub levels_empty : decision_level vs < a → Levels a vs → Levels a (new_decision_level vs)
  levels_empty h w =
      let m = level_more vs in
      record { between = opened_between w; last = λ k b c. absurd (omega arith) }

  -- a level with a literal
  pub levels_open : (p from : ℕ) → Levels a vs → Levels a (unchecked_enqueue (new_decision_level vs) p from)
  levels_open p from w =
      let m = level_more vs in
      let e = enqueue_limits (new_decision_level vs) p from in
      let t = enqueue_length (new_decision_level vs) p from in
      record {
        between = λ k b c. rw e (opened_between w k b (rw e at c));
        last = λ k b c.
            let z : suc k ≡ decision_level (new_decision_level vs) = rw e at c in
            let y : k ≡ decision_level vs = omega arith in
            rw (e, y, level_new vs) (omega (arith, ap length (level_trail vs)));
      }

module _ {n : ℕ} {cs : List (List ℕ)} {vs : VarState} (w : Assignment n cs vs) (a : ℕ) where
  pub levels_until : (level : ℕ) → level < decision_level vs → Levels a vs → Levels a (vars_until vs level)
  levels_until level low v =
      let m = until_level w level low in
      record {
        between = λ k b c. rw (until_limit vs level k (omega arith), until_limit vs level (suc k) (omega arith)) (v.between k b (omega arith));
        last = λ k b c.
            let e : level ≡ suc k = omega arith in
            rw (until_limit vs level k (omega arith), until_length w level low)
            (split (less? (suc k) (decision_level vs)) (λ l. rw e (v.between k b l)) (λ l. absurd (omega arith)));
      }

  filled : Levels a vs → (j : ℕ) → a + j < decision_level vs → j ≤ get_or vs.limits (a + j) 0
  filled v zero h = omega arith
  filled v (suc j) h =
      let i = filled v j (omega arith) in
      let s : suc (a + j) ≡ a + suc j = omega arith in
      omega (arith, subst (λ k. get_or vs.limits (a + j) 0 < get_or vs.limits k 0) s (v.between (a + j) (omega arith) (omega arith)))

  -- as many levels as literals, and a more
  pub levels_trail : Levels a vs → decision_level vs ≤ a + length vs.trail
  levels_trail v = split (less? a (decision_level vs)) more (λ h. omega arith)
    where
      more : a < decision_level vs → decision_level vs ≤ a + length vs.trail
      more h =
          let j = decision_level vs - 1 - a in
          let i = filled v j (omega arith) in
          let l = v.last (a + j) (omega arith) (omega arith) in
          omega (arith, i, l)

  pub levels_bound : Levels a vs → decision_level vs ≤ n + a
  levels_bound v = omega (arith, levels_trail v, trail_length w)

pub levels_cancel : (phase : ℕ) (s : State) (level : ℕ) {n : ℕ} {cs : List (List ℕ)} → Assignment n cs s.vars → (a : ℕ) → Levels a s.vars
    → Levels a (cancel_until phase s level).vars
levels_cancel phase s level w a v = cancel_cases phase s level (λ r. Levels a r.vars) (λ h. v) (λ h. levels_until w a level h v)
