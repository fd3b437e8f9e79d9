-- A level that is opened keeps the assignment.
use Rattle.std.specs.Prelude.{◌≡◌, ℕ, suc, ◌≤◌, ◌<◌}
use Rattle.std.proofs.Math.Path.{refl}
use Rattle.std.proofs.Common.{ap, sym, ◌∙◌, subst, arith}
use mathlib.Core.List.{List, [], ◌∷◌, reverse}
use Rattle.std.proofs.Math.ListN.{length, get_or, length-append, length-reverse, get_or-append}
use Rattle.std.proofs.Math.Seq.{get_or_at}
use Rattle.model.specs.State.{VarState, level_lit, decision_level}
use Rattle.model.specs.Trail.{new_decision_level}
use Rattle.lawbase.specs.Basics.{split, less?}
use Rattle.lawbase.specs.WellFormed.{Entry, Assignment}
use Rattle.assign.proofs.Reading.{entries-map}
use Rattle.assign.proofs.Enqueue.{ground_under}

module _ (vs : VarState) where
  pub level_more : decision_level (new_decision_level vs) ≡ suc (decision_level vs)
  unfolding new_decision_level
  level_more = omega (arith, length-append vs.limits (length vs.trail ∷ []))

  pub level_old : (k : ℕ) → k < decision_level vs → get_or (new_decision_level vs).limits k 0 ≡ get_or vs.limits k 0
  unfolding new_decision_level
  level_old k h = get_or-append vs.limits (length vs.trail ∷ []) 0 k h

  pub level_new : get_or (new_decision_level vs).limits (decision_level vs) 0 ≡ length vs.trail
  unfolding new_decision_level
  level_new = get_or_at vs.limits (length vs.trail) [] 0 (length vs.limits) refl

  pub level_trail : (new_decision_level vs).trail ≡ vs.trail
  unfolding new_decision_level
  level_trail = refl

  pub level_values : (new_decision_level vs).values ≡ vs.values
  unfolding new_decision_level
  level_values = refl

  pub level_levels : (new_decision_level vs).levels ≡ vs.levels
  unfolding new_decision_level
  level_levels = refl

  pub level_reasons : (new_decision_level vs).reasons ≡ vs.reasons
  unfolding new_decision_level
  level_reasons = refl

module _ {n : ℕ} {cs : List (List ℕ)} {vs : VarState} (w : Assignment n cs vs) where
  -- every limit is at most the length of the trail, the new one too
  limit_cases : (P : ℕ → Type 0) (k : ℕ) → k < suc (decision_level vs) → (k < decision_level vs → P (get_or vs.limits k 0))
      → (k ≡ decision_level vs → P (length vs.trail)) → P (get_or (new_decision_level vs).limits k 0)
  limit_cases P k h f g =
      split (less? k (decision_level vs)) (λ l. rw (level_old vs k l) (f l))
      (λ l.
      let e : k ≡ decision_level vs = omega arith in
      subst P (sym (level_new vs) ∙ ap (λ j. get_or (new_decision_level vs).limits j 0) (sym e)) (g e))

  kept_entry : (p : ℕ) (before : List ℕ) → length before < length vs.trail → Entry n cs vs p before → Entry n cs (new_decision_level vs) p before
  unfolding new_decision_level
  kept_entry p before b e =
      let m = level_more vs in
      record {
        range = e.range;
        fresh = e.fresh;
        valued = e.valued;
        level = omega (arith, e.level);
        above = λ k h. rw (level_old vs k (omega (arith, e.level))) (e.above k h);
        below = λ k h.
            limit_cases (λ x. x ≤ length before → k < level_lit vs p) k (omega arith) (λ l g. e.below k l g) (λ l g. absurd (omega arith));
        grounds = ground_under cs vs (new_decision_level vs) p before refl refl (λ k h. level_old vs k (omega (arith, e.level))) e.grounds;
      }

  pub open_assignment : Assignment n cs (new_decision_level vs)
  unfolding new_decision_level
  open_assignment =
      let m = level_more vs in
      record {
        values = w.values;
        levels = w.levels;
        reasons = w.reasons;
        entries = entries-map n cs cs vs (new_decision_level vs) (reverse vs.trail) (λ p b i h. kept_entry p b (omega (arith, length-reverse vs.trail)))
            w.entries;
        unset = w.unset;
        limits = λ k h. limit_cases (λ x. x ≤ length vs.trail) k (omega arith) (w.limits k) (λ e. omega arith);
        sorted = λ j k a h.
            limit_cases (λ x. get_or (new_decision_level vs).limits j 0 ≤ x) k (omega arith)
            (λ l. rw (level_old vs j (omega arith)) (w.sorted j k a l))
            (λ e. limit_cases (λ x. x ≤ length vs.trail) j (omega arith) (w.limits j) (λ e. omega arith));
      }
