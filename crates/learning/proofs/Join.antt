-- `join`: what holds of the resolvent so far, over the part of the trail that is left, and that joining a false clause keeps it.
use Rattle.std.specs.Prelude.{◌≡◌, ◌≢◌, true, false, ℕ, suc, ◌≤◌, ◌<◌, length, set}
use Rattle.std.proofs.Math.Path.{refl}
use Rattle.std.proofs.Common.{ap, sym, ◌∙◌, inr, true≢false, arith, length-set, eq-eqb, ne_eqb, lt-ltb, le-ltb}
use Rattle.std.proofs.Math.Logic.{inl}
use mathlib.Core.List.Memᴰ.{append_left as in_left}
use mathlib.Core.List.Memᴰ.{append_right as in_right}
use mathlib.Core.List.Memᴰ.{head as here}
use mathlib.Core.List.Memᴰ.{not-nil}
use mathlib.Core.List.Memᴰ.{tail as there}
use mathlib.Core.List.{List, [], ◌∷◌, ◌++◌}
use Rattle.model.specs.Lit.{var, neg}
use Rattle.model.specs.State.{VarState, decision_level, level_lit}
use Rattle.model.specs.Minimise.{is_seen}
use Rattle.model.specs.Analyze.{Resolvent, join}
use Rattle.lawbase.specs.Basics.{◌∈◌, Every, every_nil, every_cons, every_one, every_append, shrink, split, same?, on?, less?, var-neg, var_range}
use Rattle.lawbase.specs.WellFormed.{Distinct, Entries}
use Rattle.learning.proofs.Trail.{once_neg, in_range, levels_top}
use Rattle.learning.specs.Marks.{seen_at}
use Rattle.learning.proofs.Marks.{mark_same, mark_keep, mark_other, mark_new, cells-set}
use Rattle.learning.proofs.Count.{tops_other, tops_new}
use Rattle.learning.specs.Join.{counted, noted, Out, Grew, Inv}

-- ---- the branches, once

pub join_cases : (P : Resolvent → Type 0) (vs : VarState) (q : ℕ) (qs : List ℕ) (r : Resolvent)
    → ((0 < level_lit vs q → is_seen r.seen q ≡ true) → P (join vs qs r))
    → (is_seen r.seen q ≡ false → 0 < level_lit vs q → level_lit vs q ≡ decision_level vs → P (join vs qs (counted vs q r)))
    → (is_seen r.seen q ≡ false → 0 < level_lit vs q → level_lit vs q ≢ decision_level vs → P (join vs qs (noted vs q r)))
    → P (join vs (q ∷ qs) r)
unfolding join
join_cases P vs q qs r f g h =
    split (on? (is_seen r.seen q))
    (λ e. rw (e, join) (f (λ _. e)))
    (λ e. split (less? 0 (level_lit vs q))
    (λ z. split (same? (level_lit vs q) (decision_level vs))
    (λ k. rw (e, lt-ltb 0 (level_lit vs q) z, eq-eqb (level_lit vs q) (decision_level vs) k, join) (g e z k))
    (λ k. rw (e, lt-ltb 0 (level_lit vs q) z, ne_eqb (level_lit vs q) (decision_level vs) k, join) (h e z k)))
    (λ z. rw (e, le-ltb 0 (level_lit vs q) z, join) (f (λ y. absurd (omega arith)))))

-- ---- what holds

pub distinct_snoc : (ls : List ℕ) (q : ℕ) → Distinct ls → Every (λ m. var m ≢ var q) ls → Distinct (ls ++ (q ∷ []))
distinct_snoc [] q d h = (every_nil (λ m. var m ≢ var q), tt)
distinct_snoc (x ∷ ls) q d h =
    (every_append (λ m. var m ≢ var x) ls d.0 (every_one (λ m. var m ≢ var x) (λ e. h x (here refl) (sym e))), distinct_snoc ls q d.1 (shrink h))

-- ---- one literal

out_mark : (vs : VarState) (t m : List ℕ) (v x : ℕ) → Out vs t m x → Out vs t (set m v 1) x
out_mark vs t m v x o = record { falsified = o.falsified; marked = mark_keep m v (var x) o.marked; above = o.above; below = o.below }

grew_same : (vs : VarState) (q : ℕ) (r : Resolvent) → (0 < level_lit vs q → is_seen r.seen q ≡ true) → Grew vs (q ∷ []) r r
grew_same vs q r h =
    record { keeps = λ v e. e; more = omega arith; covers = every_one (λ x. 0 < level_lit vs x → is_seen r.seen x ≡ true) h; new = λ v e. inl e }

-- r and k differ by the mark of q
grew_mark : (vs : VarState) (q : ℕ) (r k : Resolvent) → k.seen ≡ set r.seen (var q) 1 → r.path ≤ k.path → var q < length r.seen
    → 0 < level_lit vs q
    → Grew vs (q ∷ []) r k
grew_mark vs q r k s p b z =
    record {
      keeps = λ v e. rw s (mark_keep r.seen (var q) v e);
      more = p;
      covers = every_one (λ x. 0 < level_lit vs x → is_seen k.seen x ≡ true) (λ _. rw s (mark_same r.seen (var q) b));
      new = λ v e. split (mark_new r.seen (var q) v (rw s at e)) (λ c. inr (q, here refl, sym c, z)) inl;
    }

module _ (n : ℕ) (cs : List (List ℕ)) (vs : VarState) (t : List ℕ) (w : Entries n cs vs t) where
  module _ (q : ℕ) (j : neg q ∈ t) (r : Resolvent) (v : Inv n vs t r) where
    pub room : var q < length r.seen
    room = rw (v.sized, ← var-neg q) (var_range (neg q) n (in_range n cs vs t w (neg q) j))

    known-mark : (u : ℕ) → seen_at (set r.seen (var q) 1) u ≡ true → (p : ℕ) × (p ∈ t) × (var p ≡ u)
    known-mark u e = split (mark_new r.seen (var q) u e) (λ c. (neg q, j, var-neg q ∙ sym c)) (v.known u)

    inv_counted : is_seen r.seen q ≡ false → level_lit vs q ≡ decision_level vs → Inv n vs t (counted vs q r)
    inv_counted m l =
        record {
          sized = length-set r.seen (var q) 1 ∙ v.sized;
          cells = cells-set r.seen (var q) 1 (omega arith) v.cells;
          counts = ap suc v.counts ∙ sym (rw var-neg at (tops_new n cs vs r.seen v.sized t w (neg q) j (rw var-neg m) (rw var-neg l)));
          lower = λ x i k ne. v.lower x i (rw (mark_other r.seen (var q) 1 (var x) (λ e. ne (rw e l))) at k) ne;
          outs = λ x i. out_mark vs t r.seen (var q) x (v.outs x i);
          distinct = v.distinct;
          known = known-mark;
        }

    inv_noted : is_seen r.seen q ≡ false → 0 < level_lit vs q → level_lit vs q ≢ decision_level vs → Inv n vs t (noted vs q r)
    inv_noted m z l =
        record {
          sized = length-set r.seen (var q) 1 ∙ v.sized;
          cells = cells-set r.seen (var q) 1 (omega arith) v.cells;
          counts = v.counts ∙ sym (tops_other vs r.seen q 1 t l);
          lower = λ x i k ne. split (same? (var x) (var q))
              (λ e. in_right r.learnt (here (once_neg n cs vs t w x q i j e)))
              (λ e. in_left (q ∷ []) (v.lower x i (rw (mark_other r.seen (var q) 1 (var x) e) at k) ne));
          outs = every_append (Out vs t (set r.seen (var q) 1)) r.learnt (λ x i. out_mark vs t r.seen (var q) x (v.outs x i))
              (every_one (Out vs t (set r.seen (var q) 1))
              (record { falsified = j; marked = mark_same r.seen (var q) room; above = z; below = below }));
          distinct = distinct_snoc r.learnt q v.distinct (λ x i e. true≢false (sym (v.outs x i).marked ∙ rw e m));
          known = known-mark;
        }
      where
        below : level_lit vs q < decision_level vs
        below =
            let h : level_lit vs q ≤ decision_level vs = rw var-neg at (levels_top n cs vs t w (neg q) j) in
            omega arith

  -- ---- all of them

  grew_trans : (q : ℕ) (qs : List ℕ) (r k l : Resolvent) → Grew vs (q ∷ []) r k → Grew vs qs k l → Grew vs (q ∷ qs) r l
  grew_trans q qs r k l a b =
      record {
        keeps = λ v e. b.keeps v (a.keeps v e);
        more = omega (arith, a.more, b.more);
        covers = every_cons (λ x. 0 < level_lit vs x → is_seen l.seen x ≡ true) (λ z. b.keeps (var q) (a.covers q (here refl) z)) b.covers;
        new = λ v e. split (b.new v e)
            (λ h. split (a.new v h) inl (λ g. inr (q, here refl, ap var (sym (one g.0 g.1)) ∙ g.2, rw (one g.0 g.1) at g.3)))
            (λ g. inr (g.0, there g.1, g.2, g.3));
      }
    where
      one : (x : ℕ) → x ∈ (q ∷ []) → x ≡ q
      one x (here e) = e
      one x (there i) = absurd (not-nil i)

  abbrev pub Joined : List ℕ → Resolvent → Resolvent → Type 0
  Joined qs r k = Inv n vs t k × Grew vs qs r k

  pub join_law : (qs : List ℕ) → Every (λ q. neg q ∈ t) qs → (r : Resolvent) → Inv n vs t r → Joined qs r (join vs qs r)
  unfolding join
  join_law [] f r v =
      (v, record { keeps = λ u e. e; more = omega arith; covers = every_nil (λ x. 0 < level_lit vs x → is_seen r.seen x ≡ true); new = λ u e. inl e })
  join_law (q ∷ qs) f r v =
      join_cases (Joined (q ∷ qs) r) vs q qs r
      (λ h.
      let k = join_law qs (shrink f) r v in
      (k.0, grew_trans q qs r r (join vs qs r) (grew_same vs q r h) k.1))
      (λ m z l.
      let k = join_law qs (shrink f) (counted vs q r) (inv_counted q (f q (here refl)) r v m l) in (
        k.0,
        grew_trans q qs r (counted vs q r) (join vs qs (counted vs q r))
            (grew_mark vs q r (counted vs q r) refl (omega arith) (room q (f q (here refl)) r v) z) k.1,
      ))
      (λ m z l.
      let k = join_law qs (shrink f) (noted vs q r) (inv_noted q (f q (here refl)) r v m z l) in (
        k.0,
        grew_trans q qs r (noted vs q r) (join vs qs (noted vs q r))
            (grew_mark vs q r (noted vs q r) refl (omega arith) (room q (f q (here refl)) r v) z) k.1,
      ))
