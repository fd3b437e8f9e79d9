-- The literals of level 0: how many there are, and that no step of a search takes one away.
use Rattle.std.specs.Prelude.{◌≡◌, ℕ, suc, ◌≤◌, ◌<◌, drop, Float}
use Rattle.std.proofs.Math.Path.{refl}
use Rattle.std.proofs.Common.{ap, sym, ◌∙◌, subst, arith}
use mathlib.Core.List.{List, [], ◌∷◌}
use Rattle.std.proofs.Math.ListN.{length, get_or}
use Rattle.model.specs.Lit.{no_reason}
use Rattle.model.specs.State.{VarState, State, level_lit, decision_level, with_vars}
use Rattle.model.specs.Trail.{unchecked_enqueue, new_decision_level, level_end, vars_until, cancel_until}
use Rattle.model.specs.Decide.{open_level, assume, decide}
use Rattle.lawbase.specs.Basics.{split, less?}
use Rattle.lawbase.specs.WellFormed.{Assignment}
use Rattle.assign.proofs.Reading.{entry_at, before_length, trail_length}
use Rattle.assign.proofs.Enqueue.{enqueue_length, enqueue_limits}
use Rattle.assign.proofs.Level.{level_more, level_old, level_new}
use Rattle.assign.proofs.Cancel.{below_cut, above_cut, until_level, until_length, until_limit}
use Rattle.assign.proofs.Back.{cancel_cases}
use Rattle.assign.proofs.Decide.{assume_nil, assume-cons}
use Rattle.ends.specs.Fixed.{fixed, Fixes}

module _ (vs : VarState) where
  pub fixed_flat : decision_level vs ≡ 0 → fixed vs ≡ length vs.trail
  unfolding fixed
  fixed_flat z = go vs.limits z
    where
      go : (limits : List ℕ) → length limits ≡ 0 → (elim limits [ [] ↦ length vs.trail | start ∷ more ↦ start ]) ≡ length vs.trail
      go [] e = refl
      go (start ∷ more) e = absurd (omega arith)

  pub fixed_deep : 0 < decision_level vs → fixed vs ≡ get_or vs.limits 0 0
  unfolding fixed
  fixed_deep z = go vs.limits z
    where
      go : (limits : List ℕ) → 0 < length limits → (elim limits [ [] ↦ length vs.trail | start ∷ more ↦ start ]) ≡ get_or limits 0 0
      go [] e = absurd (omega arith)
      go (start ∷ more) e = refl

  -- the cases, by the number of levels
  pub fixed_cases : (P : ℕ → Type 0) → (decision_level vs ≡ 0 → P (length vs.trail)) → (0 < decision_level vs → P (get_or vs.limits 0 0)) → P (fixed vs)
  fixed_cases P f g =
      split (less? 0 (decision_level vs)) (λ h. subst P (sym (fixed_deep h)) (g h))
      (λ h. subst P (sym (fixed_flat (omega arith))) (f (omega arith)))

-- the same limits, and a trail as long or longer
pub fixed_longer : (vs vs' : VarState) → vs'.limits ≡ vs.limits → length vs.trail ≤ length vs'.trail → fixed vs ≤ fixed vs'
fixed_longer vs vs' e h =
    let n : decision_level vs' ≡ decision_level vs = ap length e in
    fixed_cases vs (λ k. k ≤ fixed vs') (λ z. omega (arith, fixed_flat vs' (n ∙ z)))
    (λ d. omega (arith, fixed_deep vs' (omega arith), ap (λ (l : List ℕ). get_or l 0 0) e))

pub fixed_enqueue : (vs : VarState) (p from : ℕ) → fixed vs ≤ fixed (unchecked_enqueue vs p from)
fixed_enqueue vs p from =
    fixed_longer vs (unchecked_enqueue vs p from) (enqueue_limits vs p from) (omega (arith, enqueue_length vs p from))

-- with no level open, a literal more is one of level 0
pub fixed-unit : (vs : VarState) (p from : ℕ) → decision_level vs ≡ 0 → fixed (unchecked_enqueue vs p from) ≡ suc (fixed vs)
fixed-unit vs p from z =
    fixed_flat (unchecked_enqueue vs p from) (ap length (enqueue_limits vs p from) ∙ z) ∙ enqueue_length vs p from ∙ ap suc (sym (fixed_flat vs z))

pub fixed_open : (vs : VarState) → fixed (new_decision_level vs) ≡ fixed vs
fixed_open vs =
    fixed_deep (new_decision_level vs) (omega (arith, level_more vs))
    ∙ fixed_cases vs (λ k. get_or (new_decision_level vs).limits 0 0 ≡ k)
    (λ z. subst (λ i. get_or (new_decision_level vs).limits i 0 ≡ length vs.trail) z (level_new vs))
    (λ h. level_old vs 0 h)

module _ {n : ℕ} {cs : List (List ℕ)} {vs : VarState} (w : Assignment n cs vs) where
  pub fixed_most : fixed vs ≤ n
  fixed_most = fixed_cases vs (λ k. k ≤ n) (λ z. trail_length w) (λ h. omega (arith, w.limits 0 h, trail_length w))

  pub fixed_until : (level : ℕ) → level < decision_level vs → fixed (vars_until vs level) ≡ fixed vs
  fixed_until level low =
      let d = fixed_deep vs (omega arith) in
      let m = until_level w level low in
      fixed_cases (vars_until vs level) (λ k. k ≡ fixed vs)
      (λ z.
      let e : level ≡ 0 = omega arith in
      omega (arith, until_length w level low, ap (λ k. level_end vs k) e))
      (λ h. until_limit vs level 0 (omega arith) ∙ sym d)

  -- by place: level 0 in front, above it behind
  pub fixed_below : (i : ℕ) → i < fixed vs → level_lit vs (get_or vs.trail i 0) ≡ 0
  fixed_below i h =
      split (less? 0 (decision_level vs))
      (λ d.
      let k : i < get_or vs.limits 0 0 = omega (arith, fixed_deep vs d) in
      let m : i < length vs.trail = omega (arith, w.limits 0 d) in
      omega (arith, below_cut (entry_at w i m) 0 (omega (arith, before_length w i m))))
      (λ d. omega (arith, (entry_at w i (omega (arith, fixed_flat vs (omega arith)))).level))

  pub fixed_above : (i : ℕ) → fixed vs ≤ i → i < length vs.trail → 0 < level_lit vs (get_or vs.trail i 0)
  fixed_above i h m =
      split (less? 0 (decision_level vs))
      (λ d. above_cut (entry_at w i m) 0 d (omega (arith, before_length w i m, fixed_deep vs d)))
      (λ d. absurd (omega (arith, fixed_flat vs (omega arith))))

pub fixed_cancel : (phase : ℕ) (s : State) (level : ℕ) {n : ℕ} {cs : List (List ℕ)} → Assignment n cs s.vars
    → fixed (cancel_until phase s level).vars ≡ fixed s.vars
fixed_cancel phase s level w = cancel_cases phase s level (λ r. fixed r.vars ≡ fixed s.vars) (λ h. refl) (λ h. fixed_until w level h)

-- ---- decisions

open_fixes : (k : ℕ) (s : State) (p : ℕ) → k ≤ fixed s.vars → k ≤ fixed (open_level s p).vars
unfolding open_level
open_fixes k s p h = omega (arith, fixed_enqueue (new_decision_level s.vars) p no_reason, fixed_open s.vars)

assume_fixes : (act : List Float) (ps : List ℕ) (s : State) (k : ℕ) → k ≤ fixed s.vars → Fixes k (assume act ps s)
assume_fixes act [] s k h = assume_nil (Fixes k) act s (λ e. h) (λ p e. open_fixes k s p h)
assume_fixes act (p ∷ ps) s k h =
    assume-cons (Fixes k) act p ps s
    (λ t. assume_fixes act ps (with_vars s (new_decision_level s.vars)) k (omega (arith, fixed_open s.vars)))
    (λ a b. h)
    (λ a b. open_fixes k s p h)

pub decide_fixes : (act : List Float) (assumptions : List ℕ) (s : State) → Fixes (fixed s.vars) (decide act assumptions s)
unfolding decide
decide_fixes act ps s = assume_fixes act (drop (decision_level s.vars) ps) s (fixed s.vars) (omega arith)
