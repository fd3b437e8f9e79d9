-- The walk starts at the false clause, and ends at the definition's first UIP.
use Rattle.std.specs.Prelude.{ℕ, zero, suc, ◌<◌, ◌≡◌, refl, List, [], ◌∷◌, reverse, length, get_or, replicate}
use Rattle.std.proofs.Common.{arith, sym, ap, ◌∙◌, length-set}
use mathlib.Core.List.Memᴰ.{not-nil}
use Rattle.model.specs.Script.{Config}
use Rattle.model.specs.State.{Store, VarState, Activity, Solver, State, reason_rest}
use Rattle.model.specs.Minimise.{is_seen}
use Rattle.model.specs.Analyze.{Resolvent, join, resolve, first_uip}
use Rattle.lawbase.specs.Basics.{◌∈◌, Every, split, on?, less?}
use Rattle.lawbase.specs.WellFormed.{Proper}
use Rattle.learning.proofs.Trail.{in_reverse}
use Rattle.learning.proofs.Turn.{resolve_skip, resolve_stop, resolve_on}
use Rattle.learning.specs.Turn.{less}
use Rattle.learning.specs.Uip.{nothing}
use Rattle.learning.proofs.Uip.{nothing_inv, begun_law, begun_path}
use Rattle.learning.specs.FirstUip.{Conflict}
use Rattle.trail.specs.View.{Assignment, LitsOf}
use Rattle.store.specs.View.{Clauses, clause_of}
use Rattle.scratch.specs.declared.Scratch.{Scratch}
use Rattle.analyze.specs.Resolving.{so_far, Laid, opened}
use Rattle.analyze.specs.Joining.{Sized, Joinable, Joins, sized_then, join_sized}
use Rattle.analyze.specs.Walking.{older, older-all, stored, trail_lits, Walking}

-- Clause confl is false, nothing is marked, and there is room for what is learnt.
pub record Conflicted (t : Assignment) (c : Clauses) (x : Scratch) (a : Activity) (confl : ℕ) : Type 0 where
  pub sized : Sized t x a
  pub marks : x.marks ≡ replicate (length t.vars.values) 0
  pub proper : Every (Proper (length t.vars.values)) c.clauses
  pub conflict : Conflict (length t.vars.values) (stored c) t.vars confl

-- the definition's solver
abbrev pub solver : State → Activity → Solver
solver s a = record { state = s; activity = a }

-- The scratch block has the clause at the first UIP, as the definition has it in each state with these clauses and this assignment.
pub record Uip (t : Assignment) (c : Clauses) (x x' : Scratch) (a a' : Activity) (confl : ℕ) : Type 0 where
  pub is : (cfg : Config) (s : State) → cfg.variables ≡ length t.vars.values → s.store.clauses ≡ c.clauses → s.vars ≡ t.vars
      → Laid x x' a' (first_uip cfg (solver s a) confl)

-- the watches are not read
resolve_same : (st st' : Store) (vs : VarState) → st.clauses ≡ st'.clauses → (ps : List ℕ) (k : Resolvent) → resolve st vs ps k ≡ resolve st' vs ps k
unfolding resolve
resolve_same st st' vs e [] k = refl
resolve_same st st' vs e (p ∷ ps) k = split (on? (is_seen k.seen p))
    (λ s. split (less? 1 k.path)
    (λ m.
    resolve_on st vs p ps k s m
    ∙ resolve_same st st' vs e ps (join vs (reason_rest st vs p) (less p k))
    ∙ ap (λ (cs : List (List ℕ)). resolve st' vs ps (join vs (reason_rest (record { clauses = cs; watches = [] }) vs p) (less p k))) e
    ∙ sym (resolve_on st' vs p ps k s m))
    (λ m. resolve_stop st vs p ps k s m ∙ sym (resolve_stop st' vs p ps k s m)))
    (λ s. resolve_skip st vs p ps k s ∙ resolve_same st st' vs e ps k ∙ sym (resolve_skip st' vs p ps k s))

stored_in : (cs : List (List ℕ)) (c q : ℕ) → q ∈ get_or cs c [] → c < length cs
stored_in [] c q i = absurd (not-nil i)
stored_in (x ∷ cs) zero q i = omega arith
stored_in (x ∷ cs) (suc c) q i = omega (arith, stored_in cs c q i)

-- where the walk ends
abbrev pub uip_of : Assignment → Clauses → Activity → ℕ → Resolvent
uip_of t c a confl = resolve (stored c) t.vars (reverse t.vars.trail) (join t.vars (clause_of c confl) (nothing (length t.vars.values) a))

module _ {t : Assignment} {c : Clauses} {x : Scratch} {a : Activity} {confl : ℕ} (k : Conflicted t c x a confl) where
  pub first_stored : confl < length c.clauses
  first_stored = stored_in c.clauses confl k.conflict.top.0 k.conflict.top.1

  is_nothing : so_far (opened x) a 0 ≡ nothing (length t.vars.values) a
  is_nothing = ap (λ (m : List ℕ). record { seen = m; path = 0; learnt = []; activity = a }) k.marks

  pub first_joins : Joinable t (opened x) a 0 (clause_of c confl)
  first_joins =
      record {
        sized = record { most = k.sized.most; buffer = rw length-set k.sized.buffer; activity = k.sized.activity };
        first = omega arith;
        stored = c.clauses;
        left = reverse t.vars.trail;
        entries = k.conflict.assignment.entries;
        inv = rw is_nothing (nothing_inv (length t.vars.values) t.vars (reverse t.vars.trail) a);
        falsified = λ q i. in_reverse t.vars.trail (k.conflict.falsified q i);
      }

  pub conflicted_lits : LitsOf (length t.vars.values) t.vars.trail
  conflicted_lits = trail_lits (length t.vars.values) c.clauses t.vars k.conflict.assignment.entries

  module _ {x₁ : Scratch} {a₁ : Activity} {path₁ : ℕ} (m : Joins t (opened x) x₁ a a₁ 0 path₁ (clause_of c confl)) where
    begun_is : so_far x₁ a₁ path₁ ≡ join t.vars (clause_of c confl) (nothing (length t.vars.values) a)
    begun_is = m.holds ∙ ap (join t.vars (clause_of c confl)) is_nothing

    same_sized : length a₁.activities ≡ length a.activities
    same_sized = ap (λ (r : Resolvent). length r.activity.activities) m.holds ∙ join_sized t.vars (clause_of c confl) (so_far (opened x) a 0)

    pub walk_starts : {i : ℕ} → i ≡ length t.vars.trail → Walking t c x (uip_of t c a confl) i x₁ a₁ path₁
    walk_starts {i} e =
        let all : older t.vars.trail i ≡ reverse t.vars.trail = rw e (older-all t.vars.trail) in
        record {
          behind = m.behind;
          sized = sized_then first_joins.sized m.behind same_sized;
          proper = k.proper;
          deep = k.conflict.deep;
          inside = omega arith;
          entries = rw all k.conflict.assignment.entries;
          inv = rw (all, begun_is) (begun_law (length t.vars.values) (stored c) t.vars confl k.conflict a).0;
          pos = omega (arith, ap (λ (r : Resolvent). r.path) begun_is, begun_path (length t.vars.values) (stored c) t.vars confl k.conflict a);
          same = rw (all, begun_is) refl;
        }

  pub uip_is : {x' : Scratch} {a' : Activity} → Laid x x' a' (uip_of t c a confl) → Uip t c x x' a a' confl
  unfolding first_uip
  uip_is {x'} {a'} l = record { is = λ cfg s n e v. rw (resolve_same s.store (stored c) s.vars e, v, e, n) l }
