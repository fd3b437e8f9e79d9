-- A walk over the watches of p keeps what is well-formed; the list of p is what has stayed, and what is still to come.
use Rattle.std.specs.Prelude.{◌≡◌, refl, ◌≢◌, ◌⊎◌, true, false, ℕ, ◌*◌, ◌≤◌, ◌<◌, length, get_or, set, drop}
use Rattle.std.proofs.Common.{ap, sym, ◌∙◌, subst, inl, inr, true≢false, arith, length-set, get_or-set_same}
use mathlib.Core.List.Memᴰ.{head as here}
use mathlib.Core.List.Memᴰ.{tail as there}
use mathlib.Core.List.{List, [], ◌∷◌, ◌++◌, reverse, append_assoc}
use Rattle.std.specs.Prelude.{Some as some}
use Rattle.model.specs.Lit.{var, neg, no_reason, is_true, is_false}
use Rattle.model.specs.Script.{Config}
use Rattle.model.specs.State.{Watch, VarState, State, clause_at, with_watches, with_qhead}
use Rattle.model.specs.Store.{push_watch}
use Rattle.model.specs.Trail.{unchecked_enqueue}
use Rattle.model.specs.Propagate.{Looked, stays, goes, false_clause, look, visit}
use Rattle.lawbase.specs.Basics.{◌∈◌, Every, every_cons, split, neg-neg, neg_range}
use Rattle.lawbase.specs.WellFormed.{Implies, Assignment, Proper, Stored, WellFormed}
use Rattle.assign.proofs.Lists.{get_or_in, in_reverse}
use Rattle.assign.specs.Reading.{Unset}
use Rattle.assign.proofs.Reading.{not_both, is_true_on, on_is_false, unset_of}
use Rattle.watching.specs.Permuted.{Permuted, keep, chain}
use Rattle.watching.proofs.Permuted.{perm_proper, perm_place}
use Rattle.watching.specs.Look.{put, blocked_by}
use Rattle.watching.proofs.Lists.{stay_watched, go_watched, reordered_stored}
use Rattle.watching.specs.Reorder.{listed, Looking}
use Rattle.watching.proofs.Reorder.{reorder_assignment}
use Rattle.watching.specs.Visit.{Walking, Ended, Next, clashed, stopped, walked}

-- ---- the clause looked at

module _ {cfg : Config} {p : ℕ} {w : Watch} {s : State} (k : Looking cfg p w s) where
  abbrev pub first_of : ℕ
  first_of = k.shape.first

  abbrev pub rest_of : List ℕ
  rest_of = k.shape.rest

  -- the clause as it is looked at, and with its literal at j of the rest second
  abbrev pub looked_clause : List ℕ
  looked_clause = first_of ∷ neg p ∷ rest_of

  abbrev pub moved_clause : ℕ → List ℕ
  moved_clause j = first_of ∷ get_or rest_of j 0 ∷ set rest_of j (neg p)

  -- the assignment with its first literal set
  abbrev pub first_set : VarState
  first_set = unchecked_enqueue s.vars first_of w.clause

  pub whole : Proper cfg.variables looked_clause
  whole = perm_proper cfg.variables k.shape.permuted k.proper

  -- the literal at j of the rest, when it changes places with neg p
  pub new_permuted : (j : ℕ) → j < length rest_of → Permuted (clause_at s.store w.clause) (moved_clause j)
  new_permuted j h = chain k.shape.permuted (keep first_of (perm_place (neg p) rest_of j h))

  pub new_other : (j : ℕ) → j < length rest_of → neg (get_or rest_of j 0) ≢ p
  new_other j h e =
      whole.distinct.1.0 (get_or rest_of j 0) (get_or_in rest_of j 0 h) (ap var (sym (neg-neg (get_or rest_of j 0)) ∙ ap neg e))

  pub new_range : (j : ℕ) → j < length rest_of → get_or rest_of j 0 < 2 * cfg.variables
  new_range j h = whole.range (get_or rest_of j 0) (there (there (get_or_in rest_of j 0 h)))

-- ---- what each outcome keeps

module _ {cfg : Config} {p q : ℕ} {kept : List Watch} {w : Watch} {rest : List Watch} {s : State} (v : Walking cfg p q kept (w ∷ rest) s)
    (k : Looking cfg p w s) where
  -- it is as it was, or its first literal was the false one
  pub unmoved : (clause_at s.store w.clause ≡ looked_clause k) ⊎ (get_or (clause_at s.store w.clause) 0 0 ∈ s.vars.trail → ⊥)
  unmoved = split k.shape.moved inl (λ e. inr (λ i. not_both v.formed.vars p v.on (subst (λ c. get_or c 0 0 ∈ s.vars.trail) e i)))

  pub not_first : is_true s.vars.values (first_of k) ≡ false → get_or (clause_at s.store w.clause) 0 0 ∈ s.vars.trail → ⊥
  not_first f i =
      split k.shape.moved
      (λ e. true≢false (sym (is_true_on v.formed.vars (first_of k) (subst (λ c. get_or c 0 0 ∈ s.vars.trail) e i)) ∙ f))
      (λ e. not_both v.formed.vars p v.on (subst (λ c. get_or c 0 0 ∈ s.vars.trail) e i))

  pub seconded_assignment : Assignment cfg.variables (set s.store.clauses w.clause (looked_clause k)) s.vars
  seconded_assignment = reorder_assignment v.formed.vars w.clause (looked_clause k) unmoved

  pub stay_stored : Stored cfg (listed p (kept ++ (blocked_by w (first_of k) ∷ rest)) (put s w.clause (looked_clause k))).store
  stay_stored =
      reordered_stored cfg s.store (set s.store.watches p (kept ++ (w ∷ rest))) (set s.store.watches p (kept ++ (blocked_by w (first_of k) ∷ rest)))
      w.clause (looked_clause k) v.formed.store k.inside k.shape.permuted
      (stay_watched cfg.variables p s.store.clauses s.store.watches kept w rest (first_of k) (rest_of k) v.formed.store.watched k.lists k.inside
      k.shape.permuted k.shape.moved)

  -- the clause looked at stays, with its false literal second
  pub stay_formed : WellFormed cfg (listed p (kept ++ (blocked_by w (first_of k) ∷ rest)) (put s w.clause (looked_clause k)))
  stay_formed =
      record { store = stay_stored; vars = seconded_assignment; phases = v.formed.phases; signs = v.formed.signs; qhead = v.formed.qhead }

  -- it goes to another list
  pub go_formed : (j : ℕ) → j < length (rest_of k) → is_true s.vars.values (first_of k) ≡ false
      → WellFormed cfg
      (listed p (kept ++ rest)
      (with_watches (put s w.clause (moved_clause k j))
      (push_watch s.store.watches (neg (get_or (rest_of k) j 0)) (blocked_by w (first_of k)))))
  go_formed j hj f =
      record {
        store = reordered_stored cfg s.store (set s.store.watches p (kept ++ (w ∷ rest)))
            (set (push_watch s.store.watches (neg (get_or (rest_of k) j 0)) (blocked_by w (first_of k))) p (kept ++ rest))
            w.clause (moved_clause k j) v.formed.store k.inside (new_permuted k j hj)
            (go_watched cfg.variables p s.store.clauses s.store.watches kept w rest (first_of k) (rest_of k) (get_or (rest_of k) j 0)
            (set (rest_of k) j (neg p)) v.formed.store.watched k.lists k.inside
            (omega (
              arith,
              neg_range (get_or (rest_of k) j 0) cfg.variables (new_range k j hj),
              v.formed.store.watched.lists,
              length-set s.store.watches p (kept ++ (w ∷ rest)),
            ))
            (new_other k j hj) (new_permuted k j hj) k.shape.moved);
        vars = reorder_assignment v.formed.vars w.clause (moved_clause k j) (inr (not_first f));
        phases = v.formed.phases;
        signs = v.formed.signs;
        qhead = v.formed.qhead;
      }

  -- the literals behind the first are false
  pub behind_false : Every (λ l. is_false s.vars.values l ≡ true) (rest_of k) → Every (λ q. neg q ∈ s.vars.trail) (neg p ∷ rest_of k)
  behind_false f =
      every_cons (λ q. neg q ∈ s.vars.trail) (subst (λ q. q ∈ s.vars.trail) (sym (neg-neg p)) v.on)
      (λ q i. on_is_false v.formed.vars q ((whole k).range q (there (there i))) (f q i))

  pub no_reason-clause : cfg.max_clauses ≤ no_reason → w.clause ≢ no_reason
  no_reason-clause small e = omega (arith, k.inside, v.formed.store.clauses)

  pub unit-implies : Every (λ l. is_false s.vars.values l ≡ true) (rest_of k)
      → Implies (set s.store.clauses w.clause (looked_clause k)) w.clause (first_of k) (reverse s.vars.trail)
  unit-implies f =
      let e = get_or-set_same s.store.clauses w.clause (looked_clause k) [] k.inside in
      record {
        stored = omega (arith, length-set s.store.clauses w.clause (looked_clause k), k.inside);
        first = ap (λ c. get_or c 0 0) e;
        false_rest = subst (λ c. Every (λ q. neg q ∈ reverse s.vars.trail) (drop 1 c)) (sym e) (λ q i. in_reverse (behind_false f q i));
      }

  pub unit-unset : is_true s.vars.values (first_of k) ≡ false → is_false s.vars.values (first_of k) ≡ false → Unset s.vars (first_of k)
  unit-unset t f = unset_of v.formed.vars (first_of k) ((whole k).range (first_of k) (here refl)) t f

-- ---- the walk

module _ (p : ℕ) (Inv : List Watch → List Watch → State → Type 0) (Clash : ℕ → State → Type 0) where
  walk_step : (kept : List Watch) (w : Watch) (rest : List Watch) (o : Looked)
      → ((kept' : List Watch) (s' : State) → Inv kept' rest s' → Ended p Inv Clash (visit p kept' rest s'))
      → Next p Inv Clash kept w rest o
      → Ended p Inv Clash
      (elim o [
        | stays w' s' ↦ visit p (kept ++ (w' ∷ [])) rest s'
        | goes s' ↦ visit p kept rest s'
        | false_clause w' s' ↦
            record {
              state = with_qhead (with_watches s' (set s'.store.watches p (kept ++ (w' ∷ rest)))) (length s'.vars.trail);
              conflict = some w.clause;
            }
      ])
  walk_step kept w rest (stays w' s') rec h = rec (kept ++ (w' ∷ [])) s' h
  walk_step kept w rest (goes s') rec h = rec kept s' h
  walk_step kept w rest (false_clause w' s') rec h = clashed w.clause (stopped p (kept ++ (w' ∷ rest)) s') h

  -- the induction over a walk
  pub walk : ((kept : List Watch) (w : Watch) (rest : List Watch) (s : State) → Inv kept (w ∷ rest) s → Next p Inv Clash kept w rest (look p w s))
      → (ws kept : List Watch) (s : State) → Inv kept ws s → Ended p Inv Clash (visit p kept ws s)
  unfolding visit
  walk step [] kept s h = walked kept s h
  walk step (w ∷ rest) kept s h = walk_step kept w rest (look p w s) (λ kept' s'. walk step rest kept' s') (step kept w rest s h)

-- ---- well-formed

pub formed_snoc : (cfg : Config) (p : ℕ) (kept : List Watch) (w : Watch) (rest : List Watch) (s : State) → WellFormed cfg (listed p (kept ++ (w ∷ rest)) s)
    → WellFormed cfg (listed p ((kept ++ (w ∷ [])) ++ rest) s)
formed_snoc cfg p kept w rest s h = subst (λ l. WellFormed cfg (listed p l s)) (sym (append_assoc kept (w ∷ []) rest)) h
