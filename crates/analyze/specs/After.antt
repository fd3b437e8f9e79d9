-- What holds when `first_uip` is done: the clause in the buffer and its marks are those of the definition's first UIP.
use Rattle.std.specs.Prelude.{ℕ, ◌*◌, ◌≤◌, ◌<◌, ◌≡◌, refl, List, [], ◌∷◌, reverse, length, drop}
use Rattle.std.proofs.Common.{arith, ap, ◌∙◌, subst}
use Rattle.model.specs.Script.{Config}
use Rattle.model.specs.State.{Store, VarState, State, Activity, clause_at, reason_rest}
use Rattle.model.specs.Minimise.{is_seen}
use Rattle.model.specs.Analyze.{Resolvent, join, resolve, first_uip}
use Rattle.lawbase.specs.Basics.{split, on?, less?, neg-neg, neg_range}
use Rattle.learning.proofs.Trail.{in_range, in_reverse}
use Rattle.learning.specs.Marks.{MarksOf}
use Rattle.learning.specs.FirstUip.{Conflict}
use Rattle.learning.specs.Walk.{Stop}
use Rattle.learning.specs.Turn.{less}
use Rattle.learning.proofs.Turn.{resolve_skip, resolve_stop, resolve_on}
use Rattle.learning.proofs.Room.{distinct-length}
use Rattle.learning.proofs.Uip.{first_uip_law}
use Rattle.trail.specs.View.{Assignment, LitsOf}
use Rattle.store.specs.View.{Clauses}
use Rattle.scratch.specs.declared.Scratch.{Scratch}
use Rattle.analyze.specs.Resolving.{Laid}
use Rattle.analyze.specs.Joining.{join_sized}
use Rattle.analyze.specs.Walking.{stored}
use Rattle.analyze.specs.Uip.{Uip, solver}
use Rattle.analyze.specs.Unmarking.{marks_lits}

-- each variable keeps an activity
resolve_sized : (st : Store) (vs : VarState) (ps : List ℕ) (k : Resolvent) → length (resolve st vs ps k).activity.activities ≡ length k.activity.activities
unfolding resolve
resolve_sized st vs [] k = refl
resolve_sized st vs (p ∷ ps) k = split (on? (is_seen k.seen p))
    (λ s. split (less? 1 k.path)
    (λ m.
    ap size_of (resolve_on st vs p ps k s m)
    ∙ resolve_sized st vs ps (join vs (reason_rest st vs p) (less p k))
    ∙ join_sized vs (reason_rest st vs p) (less p k))
    (λ m. ap size_of (resolve_stop st vs p ps k s m)))
    (λ s. ap size_of (resolve_skip st vs p ps k s) ∙ resolve_sized st vs ps k)
  where
    size_of : Resolvent → ℕ
    size_of r = length r.activity.activities

-- in a state of the definition's with the clauses c and the assignment t
module _ (cfg : Config) (s : State) (t : Assignment) (c : Clauses) (confl : ℕ) (n : cfg.variables ≡ length t.vars.values)
    (e : s.store.clauses ≡ c.clauses) (v : s.vars ≡ t.vars) (k : Conflict cfg.variables s.store s.vars confl) where
  -- what `first_uip` asks of the conflict
  pub conflict_at : Conflict (length t.vars.values) (stored c) t.vars confl
  conflict_at =
      rw (← n, ← v)
      (subst (λ (cs : List (List ℕ)). Conflict cfg.variables (record { clauses = cs; watches = [] }) s.vars confl) e
      (record { assignment = k.assignment; falsified = k.falsified; deep = k.deep; top = k.top }))

  module _ (x x' : Scratch) (a a' : Activity) (u : Uip t c x x' a a' confl) where
    -- the clause and its marks, as the laws have them
    pub stop : Stop cfg.variables s.store s.vars confl (first_uip cfg (solver s a) confl)
    stop = first_uip_law cfg (solver s a) confl k

    pub after : Laid x x' a' (first_uip cfg (solver s a) confl)
    after = u.is cfg s n e v

    pub after_clause : x'.buffer.items ≡ (first_uip cfg (solver s a) confl).learnt
    after_clause = ap (λ (y : Scratch). y.buffer.items) after.scratch

    pub after_some : 1 ≤ length x'.buffer.items
    after_some = omega (arith, ap (length {A = ℕ}) (after_clause ∙ stop.first.learnt))

    pub after_room : length x'.buffer.items ≤ cfg.variables
    after_room =
        rw after_clause
        (distinct-length cfg.variables (first_uip cfg (solver s a) confl).learnt
        (λ q i. subst (λ l. l < 2 * cfg.variables) (neg-neg q)
        (neg_range _ cfg.variables (in_range cfg.variables s.store.clauses s.vars _ k.assignment.entries _ (in_reverse s.vars.trail (stop.first.falsified q i)))))
        stop.first.distinct)

    pub after_marks : MarksOf cfg.variables x'.marks (drop 1 x'.buffer.items)
    after_marks = rw (after_clause, ap (λ (y : Scratch). y.marks) after.scratch) stop.marks

    pub after_lits : LitsOf cfg.variables (drop 1 x'.buffer.items)
    after_lits = marks_lits cfg.variables _ _ after_marks

    pub after_sized : length a'.activities ≡ length a.activities
    unfolding first_uip
    after_sized =
        ap (λ (b : Activity). length b.activities) after.activity
        ∙ resolve_sized s.store s.vars (reverse s.vars.trail) _
        ∙ join_sized s.vars (clause_at s.store confl) _
