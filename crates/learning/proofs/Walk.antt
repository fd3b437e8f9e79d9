-- `resolve`, back along the trail, makes the clauses of the published rule and stops at the first UIP.
use Rattle.std.specs.Prelude.{◌≡◌, refl, ◌≢◌, true, false, List, [], ◌∷◌, ◌++◌, reverse, ℕ, ◌<◌, set}
use Rattle.std.proofs.Common.{ap, sym, ◌∙◌, inl, inr, append_assoc, arith}
use mathlib.Core.List.Memᴰ.{append_right as in_right}
use mathlib.Core.List.Memᴰ.{head as here}
use mathlib.Core.List.Memᴰ.{not-nil}
use mathlib.Core.List.Memᴰ.{tail as there}
use Rattle.model.specs.Lit.{var, neg}
use Rattle.model.specs.State.{Store, VarState, decision_level, level_lit, reason_rest}
use Rattle.model.specs.Minimise.{is_seen}
use Rattle.model.specs.Analyze.{Resolvent, join, resolve}
use Rattle.lawbase.specs.Basics.{◌∈◌, Every, every_cons, split, in_tail, same?, on?, less?, neg-neg, neg_inj, var-neg}
use Rattle.lawbase.specs.WellFormed.{Entries}
use Rattle.learning.proofs.Trail.{once_neg, from_reverse}
use Rattle.learning.specs.Marks.{MarksOf}
use Rattle.learning.proofs.Marks.{mark_other, clear_was}
use Rattle.learning.specs.Count.{Counted}
use Rattle.learning.proofs.Count.{tops-zero, tops_find}
use Rattle.learning.specs.Join.{Inv, Grew}
use Rattle.learning.proofs.Join.{join_law}
use Rattle.learning.specs.Turn.{less}
use Rattle.learning.proofs.Turn.{resolve_skip, resolve_stop, resolve_on, turn_skips, tops_rest, apart, inv_less, top_seen, reason_of, not_empty}
use Rattle.learning.specs.FirstUip.{Two, Newest, Resolved, Resolves, Resolves.step, FirstUip}
use Rattle.learning.specs.Walk.{clause_of, Within, Stop}

clause_on : (m : List ℕ) (p : ℕ) (t : List ℕ) → is_seen m p ≡ true → clause_of m (p ∷ t) ≡ neg p ∷ clause_of m t
unfolding clause_of
clause_on m p t e = rw (e, clause_of)

clause_off : (m : List ℕ) (p : ℕ) (t : List ℕ) → is_seen m p ≡ false → clause_of m (p ∷ t) ≡ clause_of m t
unfolding clause_of
clause_off m p t e = rw (e, clause_of)

pub into_clause : (m t : List ℕ) (q : ℕ) → neg q ∈ t → is_seen m q ≡ true → q ∈ clause_of m t
into_clause m [] q i h = absurd (not-nil i)
into_clause m (p ∷ t) q (here e) h =
    let k : is_seen m p ≡ true = rw (← e, var-neg) h in
    rw (clause_on m p t k) (here (sym (neg-neg q) ∙ ap neg e))
into_clause m (p ∷ t) q (there i) h = split (on? (is_seen m p))
    (λ e. rw (clause_on m p t e) (there (into_clause m t q i h)))
    (λ e. rw (clause_off m p t e) (into_clause m t q i h))

within_more : (m : List ℕ) (p : ℕ) (t : List ℕ) (q : ℕ) → Within m t q → Within m (p ∷ t) q
within_more m p t q h = (there h.0, h.1)

from_cons : (m : List ℕ) (p : ℕ) (t : List ℕ) (q : ℕ) → is_seen m p ≡ true → (q ∈ clause_of m t → Within m t q) → q ∈ (neg p ∷ clause_of m t)
    → Within m (p ∷ t) q
from_cons m p t q h rec (here e) = (here (ap neg e ∙ neg-neg p), rw (e, var-neg) h)
from_cons m p t q h rec (there i) = within_more m p t q (rec i)

pub from_clause : (m t : List ℕ) (q : ℕ) → q ∈ clause_of m t → Within m t q
unfolding clause_of
from_clause m [] q i = absurd (not-nil i)
from_clause m (p ∷ t) q i = split (on? (is_seen m p))
    (λ e. from_cons m p t q e (from_clause m t q) (rw (clause_on m p t e) at i))
    (λ e. within_more m p t q (from_clause m t q (rw (clause_off m p t e) at i)))

-- ---- a turn

module _ (n : ℕ) (cs : List (List ℕ)) (vs : VarState) (p : ℕ) (t : List ℕ) (w : Entries n cs vs (p ∷ t)) (r : Resolvent) (v : Inv n vs (p ∷ t) r) where
  module _ (m : is_seen r.seen p ≡ true) (l : level_lit vs p ≡ decision_level vs) where
    new : (newer : List ℕ) → reverse vs.trail ≡ newer ++ (p ∷ t) → Newest vs (clause_of r.seen (p ∷ t)) p
    new newer e =
        record {
          newer = newer;
          older = t;
          trail = e;
          member = into_clause r.seen (p ∷ t) (neg p) (here (neg-neg p)) (rw var-neg m);
          others = λ q i ne. in_tail (from_clause r.seen (p ∷ t) q i).0 (λ x. ne (sym (neg-neg q) ∙ ap neg x));
        }

    two : 1 < r.path → Two vs (clause_of r.seen (p ∷ t))
    two h = go (tops_find vs r.seen t (omega (arith, tops_rest n cs vs p t w r v m l)))
      where
        go : Counted vs r.seen t → Two vs (clause_of r.seen (p ∷ t))
        go (x) =
            record {
              one = neg p;
              other = neg x.0;
              one_in = into_clause r.seen (p ∷ t) (neg p) (here (neg-neg p)) (rw var-neg m);
              other_in = into_clause r.seen (p ∷ t) (neg x.0) (there (rw neg-neg x.1)) (rw var-neg x.2);
              differ = λ e. w.0.fresh x.0 x.1 (ap var (neg_inj x.0 p (sym e)));
              one_top = rw var-neg l;
              other_top = rw var-neg x.3;
            }

    -- at the first UIP
    module _ (one : r.path ≡ 1) where
      rest_in : (q : ℕ) → neg q ∈ t → is_seen r.seen q ≡ true → q ∈ r.learnt
      rest_in q i h =
          v.lower q (there i) h
          (λ e. tops-zero vs r.seen t (omega (arith, tops_rest n cs vs p t w r v m l)) (neg q) i (rw var-neg h) (rw var-neg e))

      stop_marks : MarksOf n (set r.seen (var p) 0) r.learnt
      stop_marks =
          record {
            sized = (inv_less n cs vs p t w r v m l).sized;
            cells = (inv_less n cs vs p t w r v m l).cells;
            all = λ q i. ((inv_less n cs vs p t w r v m l).outs q i).marked;
            only = λ u e.
                let k = (inv_less n cs vs p t w r v m l).known u e in
                let c = clear_was r.seen (var p) u e in
                (neg k.0, rest_in (neg k.0) (rw neg-neg k.1) (rw (var-neg, k.2) c.1), var-neg k.0 ∙ k.2);
          }

      stop_uip : (st : Store) (confl : ℕ) (newer : List ℕ) → reverse vs.trail ≡ newer ++ (p ∷ t) → Resolves st vs confl (clause_of r.seen (p ∷ t))
          → FirstUip st vs confl (neg p ∷ r.learnt)
      stop_uip st confl newer e c =
          record {
            uip = p;
            rest = r.learnt;
            learnt = refl;
            resolvent = clause_of r.seen (p ∷ t);
            resolves = c;
            all = λ q i.
                let k = from_clause r.seen (p ∷ t) q i in
                split (same? q (neg p)) here (λ ne. there (rest_in q (in_tail k.0 (λ x. ne (sym (neg-neg q) ∙ ap neg x))) k.1));
            only = every_cons (λ q. q ∈ clause_of r.seen (p ∷ t)) (new newer e).member
                (λ q i. into_clause r.seen (p ∷ t) q (v.outs q i).falsified (v.outs q i).marked);
            newest = new newer e;
            uip_top = l;
            falsified = every_cons (λ q. neg q ∈ vs.trail) (back (neg p) (here (neg-neg p))) (λ q i. back q (v.outs q i).falsified);
            above = λ q i. (v.outs q i).above;
            below = λ q i. (v.outs q i).below;
            distinct = (λ q i x. apart n cs vs p t w r v m l q i (x ∙ var-neg p), v.distinct);
          }
        where
          back : (q : ℕ) → neg q ∈ (p ∷ t) → neg q ∈ vs.trail
          back q i = from_reverse vs.trail (rw e (in_right newer i))

    -- p is resolved with its reason
    resolved : (st : Store) → Every (λ q. neg q ∈ t) (reason_rest st vs p) → (k : Resolvent) → Grew vs (reason_rest st vs p) (less p r) k
        → Resolved st vs (clause_of r.seen (p ∷ t)) p (clause_of k.seen t)
    resolved st f k g =
        record {
          kept = λ q i ne.
              let c = from_clause r.seen (p ∷ t) q i in
              let j : neg q ∈ t = in_tail c.0 (λ x. ne (sym (neg-neg q) ∙ ap neg x)) in
              let a : var q ≢ var p = λ e. w.0.fresh (neg q) j (var-neg q ∙ e) in
              into_clause k.seen t q j (g.keeps (var q) (mark_other r.seen (var p) 0 (var q) a ∙ c.1));
          added = λ q i z. into_clause k.seen t q (f q i) (g.covers q i z);
          only = λ q i.
              let c = from_clause k.seen t q i in
              split (g.new (var q) c.1)
              (λ h.
              let o = clear_was r.seen (var p) (var q) h in
              inl (into_clause r.seen (p ∷ t) q (there c.0) o.1, λ e. o.0 (ap var e ∙ var-neg p)))
              (λ h. inr (same_var q c.0 h));
        }
      where
        same_var : (q : ℕ) → neg q ∈ t → (x : ℕ) × (x ∈ reason_rest st vs p) × (var x ≡ var q) × (0 < level_lit vs x)
            → (q ∈ reason_rest st vs p) × (0 < level_lit vs q)
        same_var q j h =
            let e = once_neg n cs vs t w.1 q h.0 j (f h.0 h.1) (sym h.2) in
            (rw e h.1, rw (← h.2) h.3)

-- ---- all turns

module _ (n : ℕ) (st : Store) (vs : VarState) (confl : ℕ) (deep : 0 < decision_level vs) where
  -- what a part of the trail is to give
  abbrev pub Ends : List ℕ → Type 0
  Ends t = (newer : List ℕ) → reverse vs.trail ≡ newer ++ t → (r : Resolvent) → Inv n vs t r → Resolves st vs confl
      (clause_of r.seen t) → 0 < r.path
      → Stop n st vs confl (resolve st vs t r)

  module _ (p : ℕ) (t : List ℕ) (w : Entries n st.clauses vs (p ∷ t)) (newer : List ℕ) (e : reverse vs.trail ≡ newer ++ (p ∷ t)) where
    shift : reverse vs.trail ≡ (newer ++ (p ∷ [])) ++ t
    shift = e ∙ sym (append_assoc newer (p ∷ []) t)

    module _ (r : Resolvent) (v : Inv n vs (p ∷ t) r) (c : Resolves st vs confl (clause_of r.seen (p ∷ t))) (pos : 0 < r.path) where
      go_on : Ends t → is_seen r.seen p ≡ true → 1 < r.path → Stop n st vs confl (resolve st vs (p ∷ t) r)
      unfolding new
      go_on rec m more =
          let l = top_seen n st.clauses vs p t w r v pos m in
          let i = reason_of n st.clauses vs p t w r v m l more deep in
          let k = join vs (reason_rest st vs p) (less p r) in
          let j = join_law n st.clauses vs t w.1 (reason_rest st vs p) i.1.false_rest (less p r) (inv_less n st.clauses vs p t w r v m l) in
          rw (resolve_on st vs p t r m more)
          (rec (newer ++ (p ∷ [])) shift k j.0
          (step c (two n st.clauses vs p t w r v m l more) (new n st.clauses vs p t w r v m l newer e) l i.0 i.1
          (resolved n st.clauses vs p t w r v m l st i.1.false_rest k j.1))
          (omega (arith, j.1.more)))

      turn : Ends t → Stop n st vs confl (resolve st vs (p ∷ t) r)
      turn rec = split (on? (is_seen r.seen p))
          (λ m. split (less? 1 r.path) (go_on rec m)
          (λ h.
          let one : r.path ≡ 1 = omega arith in
          let l = top_seen n st.clauses vs p t w r v pos m in
          rw (resolve_stop st vs p t r m h)
          (record { first = stop_uip n st.clauses vs p t w r v m l one st confl newer e c; marks = stop_marks n st.clauses vs p t w r v m l one })))
          (λ m. rw (resolve_skip st vs p t r m)
          (rec (newer ++ (p ∷ [])) shift r (turn_skips n st.clauses vs p t w r v m) (rw (clause_off r.seen p t m) at c) pos))

  pub walk : (t : List ℕ) → Entries n st.clauses vs t → Ends t
  walk [] w newer e r v c pos = absurd (not_empty n vs r v pos)
  walk (p ∷ t) w newer e r v c pos = turn p t w newer e r v c pos (walk t w.1)
