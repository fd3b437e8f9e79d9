-- No variable twice: so no list of literals is longer than the variables are many.
use Rattle.std.specs.Prelude.{◌≡◌, refl, false, List, [], ◌∷◌, ℕ, ◌*◌, ◌≤◌, ◌<◌, length, set, replicate}
use Rattle.std.proofs.Common.{◌∙◌, arith, length-set}
use mathlib.Core.List.Memᴰ.{head as here}
use mathlib.Core.List.Memᴰ.{tail as there}
use Rattle.std.proofs.lemmas.List.{length-replicate}
use Rattle.model.specs.Lit.{var, neg}
use Rattle.model.specs.State.{VarState, decision_level, level_lit}
use Rattle.model.specs.Analyze.{Resolvent}
use Rattle.lawbase.specs.Basics.{Every, every_cons, split, on?, neg-neg, neg_range, var_range}
use Rattle.lawbase.specs.WellFormed.{Distinct, Entries}
use Rattle.learning.proofs.Trail.{in_range}
use Rattle.learning.specs.Marks.{seen_at, unseen}
use Rattle.learning.proofs.Marks.{mark_other, none_seen, unseen-mark, unseen_most}
use Rattle.learning.specs.Count.{tops, hit}
use Rattle.learning.specs.Join.{Inv}

distinct-unseen : (ls m : List ℕ) → Every (λ l. var l < length m) ls → Every (λ l. seen_at m (var l) ≡ false) ls → Distinct ls → length ls ≤ unseen m
distinct-unseen [] m r u d = omega arith
distinct-unseen (l ∷ ls) m r u d =
    let h = distinct-unseen ls (set m (var l) 1) (λ x i. rw (length-set m (var l) 1) (r x (there i)))
    (λ x i. mark_other m (var l) 1 (var x) (d.0 x i) ∙ u x (there i)) d.1 in
    omega (arith, unseen-mark m (var l) (r l (here refl)) (u l (here refl)))

pub distinct-length : (n : ℕ) (ls : List ℕ) → Every (λ l. l < 2 * n) ls → Distinct ls → length ls ≤ n
distinct-length n ls r d =
    let e : length (replicate {A = ℕ} n 0) ≡ n = length-replicate n 0 in
    omega (arith, distinct-unseen ls (replicate n 0) (λ l i. rw e (var_range l n (r l i))) (λ l i. none_seen n (var l)) d, unseen_most (replicate n 0))

pub entries-distinct : (n : ℕ) (cs : List (List ℕ)) (vs : VarState) (t : List ℕ) → Entries n cs vs t → Distinct t
entries-distinct n cs vs [] w = tt
entries-distinct n cs vs (p ∷ t) w = (w.0.fresh, entries-distinct n cs vs t w.1)

pub trail_short : (n : ℕ) (cs : List (List ℕ)) (vs : VarState) (t : List ℕ) → Entries n cs vs t → length t ≤ n
trail_short n cs vs t w = distinct-length n t (in_range n cs vs t w) (entries-distinct n cs vs t w)

-- ---- the resolvent so far

module _ (n : ℕ) (cs : List (List ℕ)) (vs : VarState) (t : List ℕ) (w : Entries n cs vs t) (r : Resolvent) (v : Inv n vs t r) where
  out_range : Every (λ q. q < 2 * n) r.learnt
  out_range q i = rw neg-neg at (neg_range (neg q) n (in_range n cs vs t w (neg q) (v.outs q i).falsified))

  -- with a variable on the conflict's level, there is room for the UIP
  pub learnt_short : (x : ℕ) → x < 2 * n → level_lit vs x ≡ decision_level vs → length r.learnt < n
  learnt_short x b l =
      distinct-length n (x ∷ r.learnt) (every_cons (λ q. q < 2 * n) b out_range) (
        λ q i e.
            let k : level_lit vs q ≡ decision_level vs = rw e l in
            omega (arith, (v.outs q i).below),
        v.distinct,
      )

tops_most : (vs : VarState) (m t : List ℕ) → tops vs m t ≤ length t
unfolding tops
tops_most vs m [] = omega arith
tops_most vs m (p ∷ t) = split (on? (hit vs m p)) (λ e. rw e (omega (arith, tops_most vs m t))) (λ e. rw e (omega (arith, tops_most vs m t)))

pub path_short : (n : ℕ) (vs : VarState) (t : List ℕ) (r : Resolvent) → Inv n vs t r → r.path ≤ length t
path_short n vs t r v = omega (arith, v.counts, tops_most vs r.seen t)
