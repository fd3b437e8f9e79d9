-- A turn of `resolve`: what holds of the resolvent so far is kept, and no reason of a decision is read.
use Rattle.std.specs.Prelude.{◌≡◌, ◌≢◌, true, false, List, [], ◌∷◌, ℕ, suc, ◌≤◌, ◌<◌}
use Rattle.std.proofs.Common.{ap, sym, ◌∙◌, arith, length-set, le-leb}
use Rattle.std.proofs.Math.Bool.{true≢false}
use mathlib.Core.List.Memᴰ.{tail as there}
use Rattle.std.proofs.lemmas.Bool.{lt-leb}
use Rattle.model.specs.Lit.{var, no_reason}
use Rattle.model.specs.State.{Store, VarState, decision_level, level_lit, reason_lit, reason_rest}
use Rattle.model.specs.Minimise.{is_seen}
use Rattle.model.specs.Analyze.{Resolvent, join, resolve}
use Rattle.lawbase.specs.Basics.{Every, every_cons, split, in_tail, less?, var-neg}
use Rattle.lawbase.specs.WellFormed.{Implies, Ground, Ground.fixed, Ground.decided, Ground.implied, Entries}
use Rattle.learning.proofs.Trail.{sorted, decided_opens}
use Rattle.learning.proofs.Marks.{mark_other, clear_was, cells-set}
use Rattle.learning.specs.Count.{tops}
use Rattle.learning.proofs.Count.{hit_true, hit-unseen, tops_absent, tops_below}
use Rattle.learning.specs.Join.{Inv}
use Rattle.learning.proofs.Join.{join_law}
use Rattle.learning.specs.Turn.{stopped, less}

-- ---- the branches, once

pub resolve_skip : (st : Store) (vs : VarState) (p : ℕ) (t : List ℕ) (r : Resolvent) → is_seen r.seen p ≡ false
    → resolve st vs (p ∷ t) r ≡ resolve st vs t r
unfolding resolve
resolve_skip st vs p t r e = rw (e, resolve)

pub resolve_stop : (st : Store) (vs : VarState) (p : ℕ) (t : List ℕ) (r : Resolvent) → is_seen r.seen p ≡ true → r.path ≤ 1
    → resolve st vs (p ∷ t) r ≡ stopped p r
unfolding resolve
resolve_stop st vs p t r e c = rw (e, le-leb r.path 1 c, resolve)

pub resolve_on : (st : Store) (vs : VarState) (p : ℕ) (t : List ℕ) (r : Resolvent) → is_seen r.seen p ≡ true → 1 < r.path
    → resolve st vs (p ∷ t) r ≡ resolve st vs t (join vs (reason_rest st vs p) (less p r))
unfolding resolve
resolve_on st vs p t r e c = rw (e, lt-leb r.path 1 c, resolve)

-- ---- what a turn keeps

module _ (n : ℕ) (cs : List (List ℕ)) (vs : VarState) (p : ℕ) (t : List ℕ) (w : Entries n cs vs (p ∷ t)) (r : Resolvent) (v : Inv n vs (p ∷ t) r) where
  pub turn_skips : is_seen r.seen p ≡ false → Inv n vs t r
  unfolding tops
  turn_skips m =
      record {
        sized = v.sized;
        cells = v.cells;
        counts = omega (arith, v.counts, hit-unseen vs r.seen p m);
        lower = λ q i. v.lower q (there i);
        outs = λ q i.
            let o = v.outs q i in
            record {
              falsified = in_tail o.falsified
                  (λ e. true≢false (sym o.marked ∙ rw (← e, var-neg) at m));
              marked = o.marked;
              above = o.above;
              below = o.below;
            };
        distinct = v.distinct;
        known = λ u e.
            let k = v.known u e in
            (k.0, in_tail k.1 (λ c. true≢false (sym e ∙ rw (← k.2, c) m)), k.2);
      }

  module _ (m : is_seen r.seen p ≡ true) (l : level_lit vs p ≡ decision_level vs) where
    pub tops_rest : r.path ≡ suc (tops vs r.seen t)
    unfolding tops
    tops_rest = omega (arith, v.counts, hit_true vs r.seen p m l)

    -- what is noted is of another variable
    pub apart : Every (λ q. var q ≢ var p) r.learnt
    apart q i e =
        let k : level_lit vs q ≡ decision_level vs = rw e l in
        omega (arith, (v.outs q i).below)

    pub inv_less : Inv n vs t (less p r)
    inv_less =
        record {
          sized = length-set r.seen (var p) 0 ∙ v.sized;
          cells = cells-set r.seen (var p) 0 (omega arith) v.cells;
          counts = omega (arith, tops_rest, tops_absent vs r.seen (var p) 0 t w.0.fresh);
          lower = λ q i k. v.lower q (there i) (clear_was r.seen (var p) (var q) k).1;
          outs = λ q i.
              let o = v.outs q i in
              record {
                falsified = in_tail o.falsified (λ e. apart q i (sym (var-neg q) ∙ ap var e));
                marked = mark_other r.seen (var p) 0 (var q) (apart q i) ∙ o.marked;
                above = o.above;
                below = o.below;
              };
          distinct = v.distinct;
          known = λ u e.
              let c = clear_was r.seen (var p) u e in
              let k = v.known u c.1 in
              (k.0, in_tail k.1 (λ x. c.0 (sym k.2 ∙ ap var x)), k.2);
        }

  -- the newest seen literal is of the conflict's level
  pub top_seen : 0 < r.path → is_seen r.seen p ≡ true → level_lit vs p ≡ decision_level vs
  top_seen pos m = split (less? (level_lit vs p) (decision_level vs))
      (λ h.
      let b : tops vs r.seen (p ∷ t) ≡ 0 = tops_below vs r.seen (p ∷ t) (every_cons (λ x. level_lit vs x < decision_level vs) h
      (λ q i. omega (arith, sorted n cs vs p t w q i))) in
      absurd (omega (arith, v.counts)))
      (λ h. omega (arith, w.0.level))

  -- p is resolved with its reason: a conflict of two literals of the level or more has no decision for its newest
  module _ (m : is_seen r.seen p ≡ true) (l : level_lit vs p ≡ decision_level vs) (more : 1 < r.path) where
    pub reason_of : 0 < decision_level vs → (reason_lit vs p ≢ no_reason) × Implies cs (reason_lit vs p) p t
    reason_of deep = go w.0.grounds
      where
        go : Ground cs vs p t → (reason_lit vs p ≢ no_reason) × Implies cs (reason_lit vs p) p t
        go (fixed e z) = absurd (omega arith)
        go (decided e z o) =
            let b : tops vs r.seen t ≡ 0 = tops_below vs r.seen t (rw (← l) (decided_opens n cs vs p t w z o)) in
            absurd (omega (arith, tops_rest m l))
        go (implied ne i) = (ne, i)

    -- the reason joins, and the walk goes on
    pub turn_joins : (st : Store) → st.clauses ≡ cs → 0 < decision_level vs
        → Inv n vs t (join vs (reason_rest st vs p) (less p r)) × (0 < (join vs (reason_rest st vs p) (less p r)).path)
    turn_joins st e deep =
        let j = join_law n cs vs t w.1 (reason_rest st vs p) (rw e (reason_of deep).1.false_rest) (less p r) (inv_less m l) in
        (j.0, omega (arith, j.1.more))

-- the walk does not come to the trail's end
pub not_empty : (n : ℕ) (vs : VarState) (r : Resolvent) → Inv n vs [] r → 0 < r.path → ⊥
unfolding tops
not_empty n vs r v pos = omega (arith, v.counts)
