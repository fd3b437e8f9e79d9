-- `analyze`: what holds of the clause that is learnt, and of the level to go back to.
use Rattle.std.specs.Prelude.{◌≡◌, refl, Bool, true, List, ◌∷◌, reverse, ℕ, ◌*◌, ◌<◌, get_or, drop}
use Rattle.std.proofs.Common.{ap}
use mathlib.Core.List.Memᴰ.{head as here}
use mathlib.Core.List.Memᴰ.{tail as there}
use Rattle.model.specs.Lit.{neg}
use Rattle.model.specs.Script.{Config}
use Rattle.model.specs.State.{Store, VarState, Solver, decision_level}
use Rattle.model.specs.Minimise.{minimize_conflict}
use Rattle.model.specs.Analyze.{Resolvent, highest_first, backtrack_level, first_uip, analyze}
use Rattle.lawbase.specs.Basics.{◌∈◌, Every, every_cons, neg-neg, neg_range}
use Rattle.lawbase.specs.WellFormed.{Distinct}
use Rattle.lawbase.specs.Sem.{Rup}
use Rattle.learning.proofs.Trail.{in_range, in_reverse}
use Rattle.learning.specs.FirstUip.{Conflict, FirstUip, Knows, Known, Refutes}
use Rattle.learning.specs.Walk.{Stop}
use Rattle.learning.proofs.Uip.{first_uip_law, uip_sound}
use Rattle.learning.specs.Highest.{Headed}
use Rattle.learning.proofs.Highest.{highest_first_law, headed_all, headed_only, headed_distinct, headed_top, backtrack_below, backtrack_unit}
use Rattle.learning.proofs.Room.{distinct-length}
use Rattle.learning.specs.Minimise.{Minimisable}
use Rattle.learning.proofs.Minimise.{sub_in, sub_distinct, minimize_sub, minimize_sound}
use Rattle.learning.specs.Analyzed.{Analyzed}

-- ---- the clause learnt

first_in : (L : List ℕ) (x : ℕ) (K : List ℕ) → L ≡ x ∷ K → x ∈ L
first_in L x K e = rw e (here refl)

module _ (n : ℕ) (st : Store) (vs : VarState) (confl : ℕ) (c : Conflict n st vs confl) (r : Resolvent) (s : Stop n st vs confl r) (mode : ℕ) where
  abbrev f : FirstUip st vs confl r.learnt
  f = s.first

  abbrev u : ℕ
  u = f.uip

  abbrev pub others : List ℕ
  others = drop 1 r.learnt

  others_is : others ≡ f.rest
  others_is = ap (drop 1) f.learnt

  first_is : get_or r.learnt 0 0 ≡ neg u
  first_is = ap (λ (l : List ℕ). get_or l 0 0) f.learnt

  -- a literal of the rest is one of the clause
  in_learnt : (q : ℕ) → q ∈ others → q ∈ r.learnt
  in_learnt q i = rw f.learnt (there (rw others_is at i))

  pub minimisable : Minimisable n st vs others r.seen
  minimisable =
      record {
        assignment = c.assignment;
        falsified = λ q i. f.falsified q (in_learnt q i);
        above = rw others_is f.above;
        marks = s.marks;
      }

  abbrev left : List ℕ
  left = minimize_conflict mode st vs others r.seen

  abbrev tail : List ℕ
  tail = highest_first vs left

  headed : Headed vs left tail
  headed = highest_first_law vs left

  tail_in : Every (λ q. q ∈ others) tail
  tail_in q i = sub_in (minimize_sub n st vs others r.seen minimisable mode) q (headed_only headed q i)

  tail_range : Every (λ q. q < 2 * n) tail
  tail_range q i =
      rw neg-neg at (neg_range (neg q) n (in_range n st.clauses vs (reverse vs.trail) c.assignment.entries (neg q)
      (in_reverse vs.trail (f.falsified q (in_learnt q (tail_in q i))))))

  uip_on : u ∈ vs.trail
  uip_on = rw neg-neg at (f.falsified (neg u) (first_in r.learnt (neg u) f.rest f.learnt))

  all-distinct : Distinct (neg u ∷ f.rest)
  all-distinct = rw f.learnt at f.distinct

  new_distinct : Distinct (neg u ∷ tail)
  new_distinct = (
    λ q i. all-distinct.0 q (rw others_is at (tail_in q i)),
    headed_distinct headed (sub_distinct (minimize_sub n st vs others r.seen minimisable mode) (rw others_is all-distinct.1)),
  )

  new_range : Every (λ q. q < 2 * n) (neg u ∷ tail)
  new_range =
      every_cons (λ q. q < 2 * n)
      (neg_range u n (in_range n st.clauses vs (reverse vs.trail) c.assignment.entries u (in_reverse vs.trail uip_on))) tail_range

  new_sound : (S : ℕ → Bool) → Knows S st vs → Refutes S (neg u ∷ tail) → ⊥
  new_sound S k h =
      uip_sound S n st vs confl r.learnt c k f
      (rw f.learnt (every_cons (λ q. S (neg q) ≡ true) (h (neg u) (here refl))
      (rw others_is at (minimize_sound n st vs others r.seen minimisable S k mode (λ q i. h q (there (headed_all headed q i)))))))

  analyzed : Analyzed n st vs (get_or r.learnt 0 0 ∷ tail) (backtrack_level vs tail)
  analyzed =
      record {
        uip = u;
        rest = tail;
        is = ap (λ (x : ℕ). x ∷ tail) first_is;
        uip_set = uip_on;
        uip_top = f.uip_top;
        falsified = λ q i. f.falsified q (in_learnt q (tail_in q i));
        above = λ q i. f.above q (rw others_is at (tail_in q i));
        below = headed_top headed;
        lower = backtrack_below vs tail (decision_level vs) c.deep (λ q i. f.below q (rw others_is at (tail_in q i)));
        second = refl;
        unit = backtrack_unit vs tail (λ q i. f.above q (rw others_is at (tail_in q i)));
        distinct = rw first_is new_distinct;
        range = rw first_is new_range;
        short = distinct-length n (neg u ∷ tail) new_range new_distinct;
        sound = rw first_is new_sound;
      }

pub analyze_law : (cfg : Config) (x : Solver) (confl : ℕ) → Conflict cfg.variables x.state.store x.state.vars confl
    → Analyzed cfg.variables x.state.store x.state.vars (analyze cfg x confl).clause (analyze cfg x confl).level
unfolding analyze
analyze_law cfg x confl c =
    analyzed cfg.variables x.state.store x.state.vars confl c (first_uip cfg x confl) (first_uip_law cfg x confl c) cfg.mode

pub analyze_rup : (F : List (List ℕ)) (n : ℕ) (st : Store) (vs : VarState) (clause : List ℕ) (level : ℕ) → Known F st vs
    → Analyzed n st vs clause level → Rup F clause
analyze_rup F n st vs clause level k a S s = a.sound S (k S s)
