-- A literal that is put on the trail keeps the assignment, if its variable is unset and it has a ground.
use Rattle.std.specs.Prelude.{◌≡◌, ◌≢◌, ◌⊎◌, List, [], ◌∷◌, ◌++◌, reverse, ℕ, suc, ◌*◌, ◌-◌, ◌<◌, length, get_or}
use Rattle.std.proofs.Math.Path.{refl}
use Rattle.std.proofs.Common.{ap, sym, ◌∙◌, arith}
use Rattle.std.proofs.Math.Logic.{inl, inr}
use mathlib.Core.List.Memᴰ.{append_cases}
use mathlib.Core.List.Memᴰ.{append_left as in_left}
use mathlib.Core.List.Memᴰ.{append_right as in_right}
use mathlib.Core.List.Memᴰ.{eq_of_singleton as only}
use mathlib.Core.List.Memᴰ.{head as here}
use Rattle.std.proofs.Math.ListN.{length-append, length-set}
use Rattle.std.proofs.lemmas.List.{length-reverse}
use Rattle.std.proofs.Math.Seq.{get_or-set_same, get_or-set_other}
use Rattle.model.specs.Lit.{var, sign, no_reason, l_undef, value_for, value_lit}
use Rattle.model.specs.State.{VarState, level_lit, reason_lit, decision_level}
use Rattle.model.specs.Trail.{unchecked_enqueue}
use Rattle.lawbase.specs.Basics.{◌∈◌, split, same?}
use Rattle.lawbase.specs.WellFormed.{Implies, Ground, fixed, decided, implied, Entry, Assignment}
use Rattle.assign.proofs.Lists.{from_reverse, reverse_snoc}
use Rattle.assign.specs.Reading.{Unset}
use Rattle.assign.proofs.Reading.{value_undef, entries-map, unset-fresh}

-- ---- what it leaves alone

module _ (vs : VarState) (p from : ℕ) where
  pub enqueue_value : (v : ℕ) → v ≢ var p → get_or (unchecked_enqueue vs p from).values v 0 ≡ get_or vs.values v 0
  unfolding unchecked_enqueue
  enqueue_value v h = get_or-set_other vs.values (var p) v (sign p) 0 h

  pub enqueue_level : (v : ℕ) → v ≢ var p → get_or (unchecked_enqueue vs p from).levels v 0 ≡ get_or vs.levels v 0
  unfolding unchecked_enqueue
  enqueue_level v h = get_or-set_other vs.levels (var p) v (decision_level vs) 0 h

  pub enqueue_reason : (v : ℕ) → v ≢ var p → get_or (unchecked_enqueue vs p from).reasons v 0 ≡ get_or vs.reasons v 0
  unfolding unchecked_enqueue
  enqueue_reason v h = get_or-set_other vs.reasons (var p) v from 0 h

  pub enqueue_value_lit : (l : ℕ) → var l ≢ var p → value_lit (unchecked_enqueue vs p from).values l ≡ value_lit vs.values l
  enqueue_value_lit l h = ap (λ x. value_for x l) (enqueue_value (var l) h)

  -- a literal that has a value keeps it
  pub enqueue_keeps : Unset vs p → (l : ℕ) → value_lit vs.values l ≢ l_undef
      → value_lit (unchecked_enqueue vs p from).values l ≡ value_lit vs.values l
  enqueue_keeps u l h =
      split (same? (var l) (var p)) (λ e. absurd (h (value_undef (get_or vs.values (var l) 0) l (ap (λ v. get_or vs.values v 0) e ∙ u))))
      (enqueue_value_lit l)

  pub enqueue_trail : (unchecked_enqueue vs p from).trail ≡ vs.trail ++ (p ∷ [])
  unfolding unchecked_enqueue
  enqueue_trail = refl

  pub enqueue_length : length (unchecked_enqueue vs p from).trail ≡ suc (length vs.trail)
  unfolding unchecked_enqueue
  enqueue_length = omega (arith, length-append vs.trail (p ∷ []))

  pub enqueue_limits : (unchecked_enqueue vs p from).limits ≡ vs.limits
  unfolding unchecked_enqueue
  enqueue_limits = refl

  pub enqueue_old : (q : ℕ) → q ∈ vs.trail → q ∈ (unchecked_enqueue vs p from).trail
  unfolding unchecked_enqueue
  enqueue_old q i = in_left (p ∷ []) i

  pub enqueue_new : p ∈ (unchecked_enqueue vs p from).trail
  unfolding unchecked_enqueue
  enqueue_new = in_right vs.trail (here refl)

  pub enqueue_cases : (q : ℕ) → q ∈ (unchecked_enqueue vs p from).trail → (q ∈ vs.trail) ⊎ (q ≡ p)
  unfolding unchecked_enqueue
  enqueue_cases q i = split (append_cases vs.trail i) inl (λ k. inr (only k))

-- ---- the new cells

module _ {n : ℕ} {cs : List (List ℕ)} {vs : VarState} (w : Assignment n cs vs) (p from : ℕ) (range : p < 2 * n) where
  pub new_value : get_or (unchecked_enqueue vs p from).values (var p) 0 ≡ sign p
  unfolding unchecked_enqueue
  new_value = get_or-set_same vs.values (var p) (sign p) 0 (omega (arith, w.values))

  pub new_level : level_lit (unchecked_enqueue vs p from) p ≡ decision_level vs
  unfolding unchecked_enqueue
  new_level = get_or-set_same vs.levels (var p) (decision_level vs) 0 (omega (arith, w.levels))

  pub new_reason : reason_lit (unchecked_enqueue vs p from) p ≡ from
  unfolding unchecked_enqueue
  new_reason = get_or-set_same vs.reasons (var p) from 0 (omega (arith, w.reasons))

-- an entry's ground depends on the cells of its variable and on the limits
pub ground_under : (cs : List (List ℕ)) (vs vs' : VarState) (p : ℕ) (before : List ℕ) → level_lit vs' p ≡ level_lit vs p
    → reason_lit vs' p ≡ reason_lit vs p
    → ((k : ℕ) → k < level_lit vs p → get_or vs'.limits k 0 ≡ get_or vs.limits k 0)
    → Ground cs vs p before → Ground cs vs' p before
ground_under cs vs vs' p before l r m (fixed a b) = fixed (r ∙ a) (l ∙ b)
ground_under cs vs vs' p before l r m (decided a b c) =
    decided (r ∙ a) (omega arith) (rw l (m (level_lit vs p - 1) (omega arith) ∙ c))
ground_under cs vs vs' p before l r m (implied a b) = implied (λ e. a (sym r ∙ e)) (rw r b)

-- the same limits, and the same cells of its variable
pub entry_under : (n : ℕ) (cs : List (List ℕ)) (vs vs' : VarState) (p : ℕ) (before : List ℕ) → vs'.limits ≡ vs.limits
    → get_or vs'.values (var p) 0 ≡ get_or vs.values (var p) 0
    → level_lit vs' p ≡ level_lit vs p → reason_lit vs' p ≡ reason_lit vs p
    → Entry n cs vs p before → Entry n cs vs' p before
entry_under n cs vs vs' p before m v l r e =
    record {
      range = e.range;
      fresh = e.fresh;
      valued = v ∙ e.valued;
      level = rw (l, m) e.level;
      above = λ k h. rw m (e.above k (rw l at h));
      below = λ k h g. rw l (e.below k (rw m at h) (rw m at g));
      grounds = ground_under cs vs vs' p before l r (λ k h. rw m) e.grounds;
    }

module _ {n : ℕ} {cs : List (List ℕ)} {vs : VarState} (w : Assignment n cs vs) (p from : ℕ) (range : p < 2 * n) (u : Unset vs p) where
  kept_entry : (q : ℕ) (before : List ℕ) → q ∈ reverse vs.trail → Entry n cs vs q before → Entry n cs (unchecked_enqueue vs p from) q before
  kept_entry q before i =
      let d = unset-fresh w p u q (from_reverse vs.trail i) in
      entry_under n cs vs (unchecked_enqueue vs p from) q before (enqueue_limits vs p from) (enqueue_value vs p from (var q) d)
      (enqueue_level vs p from (var q) d)
      (enqueue_reason vs p from (var q) d)

  new_entry : Ground cs (unchecked_enqueue vs p from) p (reverse vs.trail) → Entry n cs (unchecked_enqueue vs p from) p (reverse vs.trail)
  new_entry g =
      let m = enqueue_limits vs p from in
      let l = new_level w p from range in
      record {
        range = range;
        fresh = λ q i. unset-fresh w p u q (from_reverse vs.trail i);
        valued = new_value w p from range;
        level = rw (l, m) (omega arith);
        above = λ k h. rw m (omega (arith, w.limits k (rw l at h), length-reverse vs.trail));
        below = λ k h g. rw l (rw m at h);
        grounds = g;
      }

  -- a literal of an unset variable, with a ground
  pub enqueue : Ground cs (unchecked_enqueue vs p from) p (reverse vs.trail) → Assignment n cs (unchecked_enqueue vs p from)
  unfolding unchecked_enqueue
  enqueue g =
      record {
        values = length-set vs.values (var p) (sign p) ∙ w.values;
        levels = length-set vs.levels (var p) (decision_level vs) ∙ w.levels;
        reasons = length-set vs.reasons (var p) from ∙ w.reasons;
        entries = rw (reverse_snoc vs.trail p)
            (new_entry g, entries-map n cs cs vs (unchecked_enqueue vs p from) (reverse vs.trail) (λ q b i h. kept_entry q b i) w.entries);
        unset = λ v h f.
            enqueue_value vs p from v (λ e. f p (in_right vs.trail (here refl)) (sym e))
            ∙ w.unset v h (λ q i. f q (in_left (p ∷ []) i));
        limits = λ k h. omega (arith, w.limits k h, length-append vs.trail (p ∷ []));
        sorted = w.sorted;
      }

-- a unit at level 0
pub enqueue_fixed : {n : ℕ} {cs : List (List ℕ)} {vs : VarState} → Assignment n cs vs → (p : ℕ) → p < 2 * n → Unset vs p
    → decision_level vs ≡ 0 → Assignment n cs (unchecked_enqueue vs p no_reason)
enqueue_fixed w p h u z = enqueue w p no_reason h u (fixed (new_reason w p no_reason h) (new_level w p no_reason h ∙ z))

-- the decision that opens the last level
pub enqueue_decided : {n : ℕ} {cs : List (List ℕ)} {vs : VarState} → Assignment n cs vs → (p : ℕ) → p < 2 * n → Unset vs p
    → 0 < decision_level vs → get_or vs.limits (decision_level vs - 1) 0 ≡ length vs.trail → Assignment n cs (unchecked_enqueue vs p no_reason)
enqueue_decided {vs = vs} w p h u z e =
    let l = new_level w p no_reason h in
    enqueue w p no_reason h u
    (decided (new_reason w p no_reason h) (omega arith) (rw (l, enqueue_limits vs p no_reason) (e ∙ sym (length-reverse vs.trail))))

-- a unit consequence of a stored clause
pub enqueue_implied : {n : ℕ} {cs : List (List ℕ)} {vs : VarState} → Assignment n cs vs → (p from : ℕ) → p < 2 * n → Unset vs p
    → from ≢ no_reason → Implies cs from p (reverse vs.trail) → Assignment n cs (unchecked_enqueue vs p from)
enqueue_implied {vs = vs} w p from h u d i =
    let r = new_reason w p from h in
    enqueue w p from h u (implied (λ e. d (sym r ∙ e)) (rw r i))
