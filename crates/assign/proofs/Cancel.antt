-- Back to a level: the assignment is kept, and what is left is what stood at that level or below.
use Rattle.std.specs.Prelude.{◌≡◌, ◌≢◌, ◌⊎◌, List, [], ◌∷◌, reverse, ℕ, ◌≤◌, ◌<◌, length, take, set}
use Rattle.std.proofs.Math.Path.{refl, subst}
use Rattle.std.proofs.Common.{ap, sym, ◌∙◌, inl, inr, arith, length-set, take-append-drop, get_or-set_same, get_or-set_other}
use mathlib.Core.List.Memᴰ.{cast}
use mathlib.Core.List.Memᴰ.{head as here}
use mathlib.Core.List.Memᴰ.{not-nil}
use mathlib.Core.List.Memᴰ.{tail as there}
use Rattle.std.proofs.Math.ListN.{get_or, drop, length-reverse}
use Rattle.std.proofs.Math.Seq.{get_or-take, length-take-le}
use Rattle.model.specs.Lit.{var, sign, l_undef}
use Rattle.model.specs.State.{VarState, level_lit, decision_level}
use Rattle.model.specs.Trail.{unset, save, level_end, vars_until}
use Rattle.lawbase.specs.Basics.{◌∈◌, Every, shrink, every_append, split, less?, same?}
use Rattle.lawbase.specs.WellFormed.{Entry, Assignment}
use Rattle.assign.proofs.Lists.{set_every, index-take, index-drop, in_take, get_or_in_take, get_or_in_drop, from_reverse, reverse-cut, holds?}
use Rattle.assign.specs.Reading.{Unset}
use Rattle.assign.proofs.Reading.{place, entries-map, entries_end, trail_var, places_apart, entry_at, before_length}
use Rattle.assign.proofs.Enqueue.{ground_under}

-- ---- values unset, and phases saved

pub unset-length : (values part : List ℕ) → length (unset values part) ≡ length values
unfolding unset
unset-length values [] = refl
unset-length values (p ∷ part) = length-set (unset values part) (var p) l_undef ∙ unset-length values part

pub unset_other : (values part : List ℕ) (v : ℕ) → Every (λ q. var q ≢ v) part → get_or (unset values part) v 0 ≡ get_or values v 0
unfolding unset
unset_other values [] v h = refl
unset_other values (p ∷ part) v h =
    get_or-set_other (unset values part) (var p) v l_undef 0 (λ e. h p (here refl) (sym e)) ∙ unset_other values part v (shrink h)

pub unset_undef : (values part : List ℕ) (v : ℕ) → v < length values → get_or values v 0 ≡ l_undef → get_or (unset values part) v 0 ≡ l_undef
unfolding unset
unset_undef values [] v b h = h
unset_undef values (p ∷ part) v b h =
    go (same? v (var p)) (unset_undef values part v b h)
  where
    go : (v ≡ var p) ⊎ (v ≢ var p) → get_or (unset values part) v 0 ≡ l_undef → get_or (set (unset values part) (var p) l_undef) v 0 ≡ l_undef
    go (inl e) r = rw e (get_or-set_same (unset values part) (var p) l_undef 0 (omega (arith, unset-length values part)))
    go (inr d) r = get_or-set_other (unset values part) (var p) v l_undef 0 d ∙ r

pub unset_member : (values part : List ℕ) (p : ℕ) → var p < length values → p ∈ part → get_or (unset values part) (var p) 0 ≡ l_undef
unfolding unset
unset_member values [] p b i = absurd (not-nil i)
unset_member values (x ∷ part) p b (here e) =
    rw (ap var e) (get_or-set_same (unset values part) (var x) l_undef 0 (omega (arith, unset-length values part, ap var e)))
unset_member values (x ∷ part) p b (there i) =
    go (same? (var p) (var x)) (unset_member values part p b i)
  where
    go : (var p ≡ var x) ⊎ (var p ≢ var x) → get_or (unset values part) (var p) 0 ≡ l_undef
        → get_or (set (unset values part) (var x) l_undef) (var p) 0 ≡ l_undef
    go (inl e) r = rw e (get_or-set_same (unset values part) (var x) l_undef 0 (omega (arith, unset-length values part)))
    go (inr d) r = get_or-set_other (unset values part) (var x) (var p) l_undef 0 d ∙ r

pub save-length : (phases part : List ℕ) → length (save phases part) ≡ length phases
unfolding save
save-length phases [] = refl
save-length phases (p ∷ part) = length-set (save phases part) (var p) (sign p) ∙ save-length phases part

pub save-signs : (phases part : List ℕ) → Every (λ x. x < 2) phases → Every (λ x. x < 2) (save phases part)
unfolding save
save-signs phases [] f = f
save-signs phases (p ∷ part) f = set_every (λ x. x < 2) (save phases part) (var p) (sign p) (omega arith) (save-signs phases part f)

-- ---- the cut

module _ (vs : VarState) (level : ℕ) where
  pub until_limit : (k : ℕ) → k < level → get_or (vars_until vs level).limits k 0 ≡ get_or vs.limits k 0
  unfolding vars_until
  until_limit k h = get_or-take level vs.limits k 0 h

  -- the value of a variable with no literal above the level
  pub until_same : (v : ℕ) → Every (λ q. var q ≢ v) (drop (level_end vs level) vs.trail)
      → get_or (vars_until vs level).values v 0 ≡ get_or vs.values v 0
  unfolding vars_until
  until_same v h = unset_other vs.values (drop (level_end vs level) vs.trail) v h

  pub until_levels : (vars_until vs level).levels ≡ vs.levels
  unfolding vars_until
  until_levels = refl

  pub until_reasons : (vars_until vs level).reasons ≡ vs.reasons
  unfolding vars_until
  until_reasons = refl

-- a place in front of the cut is of the level or below, and a place behind it above the level
pub below_cut : {n : ℕ} {cs : List (List ℕ)} {vs : VarState} {p : ℕ} {before : List ℕ} → Entry n cs vs p before → (level : ℕ)
    → length before < level_end vs level → level_lit vs p ≤ level
below_cut {vs = vs} {p = p} e level h = split (less? level (level_lit vs p)) (λ l. absurd (omega (arith, e.above level l))) (λ l. l)

pub above_cut : {n : ℕ} {cs : List (List ℕ)} {vs : VarState} {p : ℕ} {before : List ℕ} → Entry n cs vs p before → (level : ℕ)
    → level < decision_level vs → level_end vs level ≤ length before → level < level_lit vs p
above_cut e level low h = e.below level low h

module _ {n : ℕ} {cs : List (List ℕ)} {vs : VarState} (w : Assignment n cs vs) (level : ℕ) (low : level < decision_level vs) where
  pub end_inside : level_end vs level ≤ length vs.trail
  end_inside = w.limits level low

  pub until_level : decision_level (vars_until vs level) ≡ level
  unfolding vars_until
  until_level = length-take-le level vs.limits (omega arith)

  pub until_length : length (vars_until vs level).trail ≡ level_end vs level
  unfolding vars_until
  until_length = length-take-le (level_end vs level) vs.trail end_inside

  pub until_old : (p : ℕ) → p ∈ (vars_until vs level).trail → (p ∈ vs.trail) × (level_lit vs p ≤ level)
  unfolding vars_until
  until_old p i =
      let k = index-take 0 (level_end vs level) vs.trail i in
      let e = entry_at w k.at k.inside in (
        in_take (level_end vs level) vs.trail i,
        subst (λ q. level_lit vs q ≤ level) k.value
            (below_cut e level (omega (arith, k.most, before_length w k.at k.inside))),
      )

  pub until_kept : (p : ℕ) → p ∈ vs.trail → level_lit vs p ≤ level → p ∈ (vars_until vs level).trail
  unfolding vars_until
  until_kept p i h =
      let a = place w p i in
      split (less? a.at (level_end vs level))
      (λ (l : a.at < level_end vs level). cast (sym a.literal) (get_or_in_take vs.trail (level_end vs level) a.at 0 l a.inside))
      (λ (l : level_end vs level ≤ a.at). absurd (omega (arith, above_cut a.entry level low (omega (arith, a.older)))))

  -- what goes is above the level
  pub until_gone : (p : ℕ) → p ∈ vs.trail → level < level_lit vs p → p ∈ drop (level_end vs level) vs.trail
  until_gone p i h =
      let a = place w p i in
      split (less? a.at (level_end vs level))
      (λ (l : a.at < level_end vs level). absurd (omega (arith, below_cut a.entry level (omega (arith, a.older)))))
      (λ (l : level_end vs level ≤ a.at). cast (sym a.literal) (get_or_in_drop vs.trail (level_end vs level) a.at 0 l a.inside))

  pub until_dropped : (p : ℕ) → p ∈ drop (level_end vs level) vs.trail → level < level_lit vs p
  until_dropped p i =
      let k = index-drop 0 (level_end vs level) vs.trail i in
      let e = entry_at w k.at k.inside in
      subst (λ q. level < level_lit vs q) k.value
      (above_cut e level low (omega (arith, k.least, before_length w k.at k.inside)))

  apart : (p q : ℕ) → p ∈ take (level_end vs level) vs.trail → q ∈ drop (level_end vs level) vs.trail → var q ≢ var p
  apart p q i j e =
      let a = index-take 0 (level_end vs level) vs.trail i in
      let b = index-drop 0 (level_end vs level) vs.trail j in
      places_apart w a.at b.at (omega (arith, a.most, b.least)) b.inside (ap var a.value ∙ sym e ∙ sym (ap var b.value))

  pub until_value : (p : ℕ) → p ∈ (vars_until vs level).trail → get_or (vars_until vs level).values (var p) 0 ≡ get_or vs.values (var p) 0
  unfolding vars_until
  until_value p i = until_same vs level (var p) (λ q j. apart p q i j)

  pub until_unset : (p : ℕ) → p ∈ vs.trail → level < level_lit vs p → Unset (vars_until vs level) p
  unfolding vars_until
  until_unset p i h =
      unset_member vs.values (drop (level_end vs level) vs.trail) p (omega (arith, trail_var w p i, w.values)) (until_gone p i h)

  -- what was unset stays so
  pub until_still : (p : ℕ) → var p < n → Unset vs p → Unset (vars_until vs level) p
  unfolding vars_until
  until_still p h u = unset_undef vs.values (drop (level_end vs level) vs.trail) (var p) (omega (arith, w.values)) u

  kept_entry : (p : ℕ) (before : List ℕ) → p ∈ take (level_end vs level) vs.trail → length before < level_end vs level → Entry n cs vs p before
      → Entry n cs (vars_until vs level) p before
  unfolding vars_until
  kept_entry p before i b e =
      let l = below_cut e level b in
      let m = until_level in
      record {
        range = e.range;
        fresh = e.fresh;
        valued = until_value p i ∙ e.valued;
        level = omega arith;
        above = λ k h. rw (until_limit vs level k (omega arith)) (e.above k h);
        below = λ k h g. e.below k (omega arith) (rw (until_limit vs level k (omega arith)) at g);
        grounds = ground_under cs vs (vars_until vs level) p before refl refl (λ k h. until_limit vs level k (omega arith)) e.grounds;
      }

  unset_now : (v : ℕ) → v < n → Every (λ q. var q ≢ v) (take (level_end vs level) vs.trail) → get_or (vars_until vs level).values v 0 ≡ l_undef
  unfolding vars_until
  unset_now v h f = go (holds? v (drop (level_end vs level) vs.trail))
    where
      go : ((q : ℕ) × (q ∈ drop (level_end vs level) vs.trail) × (var q ≡ v)) ⊎ Every (λ q. var q ≢ v) (drop (level_end vs level) vs.trail)
          → get_or (vars_until vs level).values v 0 ≡ l_undef
      go (inl k) =
          subst (λ x. get_or (vars_until vs level).values x 0 ≡ l_undef) k.2
          (unset_member vs.values (drop (level_end vs level) vs.trail) k.0 (omega (arith, k.2, w.values)) k.1)
      go (inr g) =
          until_same vs level v g
          ∙ w.unset v h (λ q i. every_append (λ q. var q ≢ v) (take (level_end vs level) vs.trail) f g q (rw (← (take-append-drop (level_end vs level) vs.trail)) at i))

  pub until_assignment : Assignment n cs (vars_until vs level)
  unfolding vars_until
  until_assignment =
      let m = until_level in
      let t = until_length in
      record {
        values = unset-length vs.values (drop (level_end vs level) vs.trail) ∙ w.values;
        levels = w.levels;
        reasons = w.reasons;
        entries = entries-map n cs cs vs (vars_until vs level) (reverse (take (level_end vs level) vs.trail))
            (λ p b i h.
            kept_entry p b (from_reverse (take (level_end vs level) vs.trail) i)
            (omega (arith, length-reverse (take (level_end vs level) vs.trail))))
            (entries_end n cs vs (reverse (drop (level_end vs level) vs.trail)) (reverse (take (level_end vs level) vs.trail))
            (rw (reverse-cut vs.trail (level_end vs level)) at w.entries));
        unset = unset_now;
        limits = λ k h. rw (until_limit vs level k (omega arith)) (omega (arith, w.sorted k level (omega arith) low));
        sorted = λ j k a h. rw (until_limit vs level j (omega arith), until_limit vs level k (omega arith)) (w.sorted j k a (omega arith));
      }
