-- Reasons and decisions on the trail: a reason's other literals are false and older, and only the first literal of a level has no reason.
use Rattle.std.specs.Prelude.{◌≡◌, ◌≢◌, List, [], reverse, ℕ, ◌-◌, ◌≤◌, ◌<◌, length, get_or, take, drop}
use Rattle.std.proofs.Common.{ap, sym, ◌∙◌, subst, arith}
use mathlib.Core.List.Memᴰ.{cast}
use Rattle.model.specs.Lit.{neg, no_reason}
use Rattle.model.specs.State.{VarState, level_lit, reason_lit, decision_level}
use Rattle.lawbase.specs.Basics.{◌∈◌, Every, var-neg}
use Rattle.lawbase.specs.WellFormed.{Implies, Ground, fixed, decided, implied, Assignment}
use Rattle.assign.proofs.Lists.{in_take, index-take, from_reverse}
use Rattle.assign.proofs.Reading.{place, entry_at, before_length, levels_sorted, not_both}

pub ground_implied : {cs : List (List ℕ)} {vs : VarState} {p : ℕ} {before : List ℕ} → Ground cs vs p before → reason_lit vs p ≢ no_reason
    → Implies cs (reason_lit vs p) p before
ground_implied (fixed r l) d = absurd (d r)
ground_implied (decided r l e) d = absurd (d r)
ground_implied (implied r i) d = i

-- without a reason above level 0: the first literal of its level
pub ground_decided : {cs : List (List ℕ)} {vs : VarState} {p : ℕ} {before : List ℕ} → Ground cs vs p before → reason_lit vs p ≡ no_reason
    → 0 < level_lit vs p → get_or vs.limits (level_lit vs p - 1) 0 ≡ length before
ground_decided (fixed r l) e h = absurd (omega arith)
ground_decided (decided r l c) e h = c
ground_decided (implied r i) e h = absurd (r e)

-- an older literal on the trail
pub record Older (vs : VarState) (p at : ℕ) : Type 0 where
  pub place : ℕ
  pub before : place < at
  pub literal : get_or vs.trail place 0 ≡ p
  pub on : p ∈ vs.trail

pub older : (vs : VarState) (p at : ℕ) → p ∈ reverse (take at vs.trail) → Older vs p at
older vs p at i =
    let j = from_reverse (take at vs.trail) i in
    let k = index-take 0 at vs.trail j in
    record { place = k.at; before = k.most; literal = k.value; on = in_take at vs.trail j }

module _ {n : ℕ} {cs : List (List ℕ)} {vs : VarState} (w : Assignment n cs vs) where
  pub older_level : (p at : ℕ) → at < length vs.trail → Older vs p at → level_lit vs p ≤ level_lit vs (get_or vs.trail at 0)
  older_level p at b o =
      subst (λ q. level_lit vs q ≤ level_lit vs (get_or vs.trail at 0)) o.literal (levels_sorted w o.place at (omega (arith, o.before)) b)

  -- the reason of a literal, in its place
  pub reason_implies : (p : ℕ) (i : p ∈ vs.trail) → reason_lit vs p ≢ no_reason
      → Implies cs (reason_lit vs p) p (reverse (take (place w p i).at vs.trail))
  reason_implies p i d = ground_implied (place w p i).entry.grounds d

  -- its other literals are false, by literals of the same level or a lower one
  pub reason_false : (p : ℕ) → p ∈ vs.trail → reason_lit vs p ≢ no_reason
      → Every (λ q. (neg q ∈ vs.trail) × (level_lit vs q ≤ level_lit vs p)) (drop 1 (get_or cs (reason_lit vs p) []))
  reason_false p i d q j =
      let k = place w p i in
      let o = older vs (neg q) k.at ((reason_implies p i d).false_rest q j) in (
        o.on,
        subst (λ x. x ≤ level_lit vs p) (ap (λ v. get_or vs.levels v 0) (var-neg q))
            (subst (λ x. level_lit vs (neg q) ≤ level_lit vs x) k.literal (older_level (neg q) k.at k.inside o)),
      )

  pub reason_first : (p : ℕ) → p ∈ vs.trail → reason_lit vs p ≢ no_reason → get_or (get_or cs (reason_lit vs p) []) 0 0 ≡ p
  reason_first p i d = (reason_implies p i d).first

  -- it is no false literal
  pub reason_true : (p f : ℕ) → p ∈ vs.trail → reason_lit vs p ≢ no_reason → neg f ∈ vs.trail
      → get_or (get_or cs (reason_lit vs p) []) 0 0 ≢ f
  reason_true p f i d j e = not_both w f (cast (sym e ∙ reason_first p i d) i) j

  pub reason_stored : (p : ℕ) → p ∈ vs.trail → reason_lit vs p ≢ no_reason → reason_lit vs p < length cs
  reason_stored p i d = (reason_implies p i d).stored

  -- a literal that is not the first of its level, above level 0, has a reason
  pub later_implied : (i j : ℕ) → i < j → j < length vs.trail → level_lit vs (get_or vs.trail i 0) ≡ level_lit vs (get_or vs.trail j 0)
      → 0 < level_lit vs (get_or vs.trail j 0) → reason_lit vs (get_or vs.trail j 0) ≢ no_reason
  later_implied i j h b e l r =
      let c = ground_decided (entry_at w j b).grounds r l in
      let a = (entry_at w i (omega arith)).above (level_lit vs (get_or vs.trail j 0) - 1) (omega arith) in
      omega (arith, c, a, before_length w i (omega arith), before_length w j b)

  -- the level of a place, by the limits
  pub level_above : (i k : ℕ) → i < length vs.trail → k < decision_level vs → get_or vs.limits k 0 ≤ i → k < level_lit vs (get_or vs.trail i 0)
  level_above i k b h l = (entry_at w i b).below k h (omega (arith, before_length w i b))

  pub level_below : (i k : ℕ) → i < length vs.trail → k < level_lit vs (get_or vs.trail i 0) → get_or vs.limits k 0 ≤ i
  level_below i k b h = omega (arith, (entry_at w i b).above k h, before_length w i b)

  -- behind the last limit stand the literals of the last level
  pub last_level : (i : ℕ) → i < length vs.trail → 0 < decision_level vs → get_or vs.limits (decision_level vs - 1) 0 ≤ i
      → level_lit vs (get_or vs.trail i 0) ≡ decision_level vs
  last_level i b h l = omega (arith, level_above i (decision_level vs - 1) b (omega arith) l, (entry_at w i b).level)
