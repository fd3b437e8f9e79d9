-- The way back: one literal after the other from the trail's end comes to the definition's way back.
use Rattle.std.specs.Prelude.{ℕ, zero, suc, ◌-◌, ◌≤◌, ◌<◌, max, ◌≡◌, refl, List, [], length, set, take, drop, ltb}
use Rattle.std.proofs.Common.{arith, sym, ◌∙◌, lt-ltb, le-ltb, drop_of_length-le, get_or-take, drop-cons}
use Rattle.std.proofs.Math.Decide.{dec_le}
use Rattle.std.proofs.Math.Path.{ap}
use Rattle.std.proofs.Math.ListN.{get_or, length-set}
use Rattle.std.proofs.Math.Seq.{length-take-le, take-take, take-length, drop-length}
use Rattle.model.specs.Lit.{var, sign, l_undef}
use Rattle.model.specs.State.{VarState, decision_level}
use Rattle.model.specs.Trail.{unset, save, saved_part, vars_until, level_end}
use Rattle.trail.specs.Inside.{shown, Kept}
use Rattle.trail.specs.Laws.{limits-length}
use Rattle.trail.specs.declared.Trail.TheInside.{Inside}
use Rattle.trail.specs.View.{Assignment, LitsOf, Undoable, saves, save_if, undone, saved_from, undone_to, until}

unset_more : (values trail : List ℕ) (k : ℕ) → k < length trail
    → set (unset values (drop (suc k) trail)) (var (get_or trail k 0)) l_undef ≡ unset values (drop k trail)
unfolding unset
unset_more values trail k g = rw (drop-cons trail k 0 g)

save_more : (phases trail : List ℕ) (k : ℕ) → k < length trail
    → set (save phases (drop (suc k) trail)) (var (get_or trail k 0)) (sign (get_or trail k 0)) ≡ save phases (drop k trail)
unfolding save
save_more phases trail k g = rw (drop-cons trail k 0 g)

phases_more : (phase last : ℕ) (phases trail : List ℕ) (k : ℕ) → k < length trail
    → save_if (saves phase last k) (save phases (saved_from phase last (suc k) trail)) (get_or trail k 0) ≡ save phases (saved_from phase last k trail)
phases_more zero last phases trail k g = refl
phases_more (suc zero) last phases trail k g = go (dec_le k last)
  where
    go : Dec (k ≤ last) → save_if (ltb last k) (save phases (drop (max (suc k) (suc last)) trail)) (get_or trail k 0) ≡ save phases (drop (max k (suc last)) trail)
    go (yes b) =
        let e : max (suc k) (suc last) ≡ suc last = omega arith in
        let f : max k (suc last) ≡ suc last = omega arith in
        rw (le-ltb last k b, e, f)
    go (no b) =
        let e : max (suc k) (suc last) ≡ suc k = omega arith in
        let f : max k (suc last) ≡ k = omega arith in
        let l : last < k = omega arith in
        rw (lt-ltb last k l, e, f) (save_more phases trail k g)
phases_more (suc (suc phase)) last phases trail k g = save_more phases trail k g

saved_none : (phase last : ℕ) (trail : List ℕ) → saved_from phase last (length trail) trail ≡ []
saved_none zero last trail = refl
saved_none (suc zero) last trail = let b : length trail ≤ max (length trail) (suc last) = omega arith in drop_of_length-le trail b
saved_none (suc (suc phase)) last trail = drop-length trail

-- nothing went
pub undone_none : (phase last k : ℕ) (a : Assignment) → k ≡ length a.vars.trail → undone_to phase last k a ≡ a
unfolding undone_to unset save
undone_none phase last k a e =
    rw (e, drop-length a.vars.trail, take-length a.vars.trail, saved_none phase last a.vars.trail)

-- one more goes
pub undone_more : (phase last k : ℕ) (a : Assignment) → k < length a.vars.trail → undone phase last (undone_to phase last (suc k) a) ≡ undone_to phase last k a
unfolding undone undone_to
undone_more phase last k a g =
    let t = a.vars.trail in
    let c : length (take (suc k) t) - 1 ≡ k = rw (length-take-le (suc k) t g) (omega arith) in
    rw (c, get_or-take (suc k) t k 0 (omega arith), take-take k (suc k) t (omega arith), unset_more a.vars.values t k g, phases_more phase last a.phases t k g)

saved_all : (phase : ℕ) (vs : VarState) (level : ℕ) → level_end vs level ≤ level_end vs (decision_level vs - 1)
    → saved_from phase (level_end vs (decision_level vs - 1)) (level_end vs level) vs.trail ≡ saved_part phase vs level
unfolding saved_part
saved_all zero vs level o = refl
saved_all (suc zero) vs level o =
    let e : max (level_end vs level) (suc (level_end vs (decision_level vs - 1))) ≡ suc (level_end vs (decision_level vs - 1)) = omega arith in
    rw e
saved_all (suc (suc phase)) vs level o = refl

abbrev with_limits : Assignment → List ℕ → Assignment
with_limits a x =
    record {
      vars = record { values = a.vars.values; levels = a.vars.levels; reasons = a.vars.reasons; trail = a.vars.trail; limits = x };
      phases = a.phases;
      trail_cells = a.trail_cells;
      limit_cells = a.limit_cells;
    }

-- all that stands above the level went, and the limits are cut
undone_until : (phase level last : ℕ) (a : Assignment) → level_end a.vars level ≤ level_end a.vars (decision_level a.vars - 1)
    → last ≡ level_end a.vars (decision_level a.vars - 1)
    → with_limits (undone_to phase last (level_end a.vars level) a) (take level a.vars.limits) ≡ until phase a level
unfolding undone_to vars_until
undone_until phase level last a o e = rw (e, saved_all phase a.vars level o)

pub lits-take : (n k : ℕ) (ps : List ℕ) → k ≤ length ps → LitsOf n ps → LitsOf n (take k ps)
lits-take n k ps b g i q =
    let l : i < k = rw (length-take-le k ps b) at q in
    rw (get_or-take k ps i 0 l) (g i (omega arith))

-- what holds between two turns of `cancel_until`, of the assignment b, where a was its beginning: all from the end of the trail on went
pub record Undoing (a : Assignment) (phase last at : ℕ) (b : Assignment) : Type 0 where
  pub low : at ≤ length b.vars.trail
  pub high : length b.vars.trail ≤ length a.vars.trail
  pub vars : length b.vars.values ≡ length a.vars.values
  pub is : b ≡ undone_to phase last (length b.vars.trail) a

module _ (a : Assignment) (phase last at : ℕ) where
  pub undoing_begins : at ≤ length a.vars.trail → Undoing a phase last at a
  undoing_begins g = record { low = g; high = omega arith; vars = refl; is = sym (undone_none phase last (length a.vars.trail) a refl) }

  module _ (b : Assignment) (u : Undoing a phase last at b) where
    pub undoing_lits : LitsOf (length a.vars.values) a.vars.trail → LitsOf (length b.vars.values) b.vars.trail
    unfolding undone_to
    undoing_lits g = rw (u.vars, ap (λ (x : Assignment). x.vars.trail) u.is) (lits-take (length a.vars.values) (length b.vars.trail) a.vars.trail u.high g)

    pub undoing_falls : at < length b.vars.trail → length (undone phase last b).vars.trail ≡ length b.vars.trail - 1
    unfolding undone
    undoing_falls g = length-take-le (length b.vars.trail - 1) b.vars.trail (omega arith)

    pub undoing_turns : at < length b.vars.trail → Undoing a phase last at (undone phase last b)
    unfolding undone
    undoing_turns g =
        let f : length (undone phase last b).vars.trail ≡ length b.vars.trail - 1 = undoing_falls g in
        let e : length b.vars.trail ≡ suc (length b.vars.trail - 1) = omega arith in
        record {
          low = omega arith;
          high = omega (arith, u.high);
          vars = simp length-set u.vars;
          is = ap (undone phase last) (u.is ∙ ap (λ (k : ℕ). undone_to phase last k a) e) ∙ undone_more phase last (length b.vars.trail - 1) a (omega (arith, u.high)) ∙ rw f;
        }

    same_limits : b.vars.limits ≡ a.vars.limits
    unfolding undone_to
    same_limits = ap (λ (x : Assignment). x.vars.limits) u.is

    undoing_ends : (level : ℕ) → Undoable (length a.vars.values) a.vars level → length b.vars.trail ≤ at
        → at ≡ level_end a.vars level → last ≡ level_end a.vars (decision_level a.vars - 1)
        → with_limits b (take level b.vars.limits) ≡ until phase a level
    unfolding undone_to
    undoing_ends level x g e f =
        let n : length b.vars.trail ≡ level_end a.vars level = omega (arith, u.low) in
        let q : b ≡ undone_to phase last (level_end a.vars level) a = u.is ∙ ap (λ (k : ℕ). undone_to phase last k a) n in
        ap (λ (y : Assignment). with_limits y (take level y.vars.limits)) q ∙ undone_until phase level last a x.ordered f

  -- the end, where the trail's fields t still count the levels that there were
  pub undoing_cut : (t : Inside) → Kept t → Undoing a phase last at (shown t) → (level : ℕ) → level < decision_level a.vars
      → Undoable (length a.vars.values) a.vars level → length (shown t).vars.trail ≤ at
      → at ≡ level_end a.vars level → last ≡ level_end a.vars (decision_level a.vars - 1)
      → with_limits (shown t) (take level t.limits.now) ≡ until phase a level
  undoing_cut t k u level g x b e f =
      let d : length (shown t).vars.limits ≡ t.depth = limits-length t k in
      let n : length (shown t).vars.limits ≡ length a.vars.limits = ap (λ (y : List ℕ). length y) (same_limits (shown t) u) in
      rw (take-take level t.depth t.limits.now (omega arith)) at (undoing_ends (shown t) u level x b e f)
