-- A watch whose blocker is not true: each case of the code is the definition's.
use Rattle.std.specs.Prelude.{ℕ, ◌+◌, ◌/◌, ◌<◌, ◌≡◌, refl, ◌≢◌, true, false, List, [], ◌∷◌, ◌++◌, length, get_or, set, drop}
use Rattle.std.proofs.Common.{sym, ap, subst, subst₂, ◌∙◌, length-set, set-set, get_or-set_same}
use Rattle.std.specs.Prelude.{Option, None as none, Some as some}
use Rattle.model.specs.Lit.{neg, is_true}
use Rattle.model.specs.State as model
use Rattle.model.specs.State.{Watch}
use Rattle.model.specs.Store.{push_watch}
use Rattle.model.specs.Trail.{unchecked_enqueue}
use Rattle.model.specs.Propagate as Definition
use Rattle.model.specs.Propagate.{false_second, new_watch}
use Rattle.trail.specs.View.{Assignment, enqueued}
use Rattle.watch.specs.View.{Watches, blocked, moved}
use Rattle.watch.specs.Walk.{Gone}
use Rattle.watch.specs.Meaning.{as_watches}
use Rattle.watch.specs.Steps as steps
use Rattle.watch.specs.declared.Cursor.{Cursor}
use Rattle.state.specs.declared.State.{State}
use Rattle.state.specs.Walk.{On, More, node_at}
use Rattle.state.specs.Still.{state_at}
use Rattle.propagate.specs.Visit.{to_visit, look-blocked, look_first, look_found, look_false, look-unit, push-set}
use Rattle.propagate.specs.View.{put_clause, with_blocks, Passed, at_node, exchanged, Lookable, Settles, clashes, sets, Looks, passes, moves, settles, Walks, left, Went, Looked}
use Rattle.propagate.specs.Walking.{Chained, blocked_chained, moved_chained, chained, Aside, aside_blocks, the_watch, kept_now, rest_now, listed_now, in_lists, the_look, lookable, movable, after_stays, after_goes, after_clash}

abbrev state_with : State → Assignment → List (List ℕ) → List (List Watch) → model.State
state_with s a cs ws = record { ok = s.ok; store = record { clauses = cs; watches = ws }; vars = a.vars; phases = a.phases; qhead = s.qhead }

enqueued_values : (a : Assignment) (q from : ℕ) → length (enqueued a q from).vars.values ≡ length a.vars.values
unfolding unchecked_enqueue
enqueued_values a q from = simp length-set

module _ (s : State) (p : ℕ) (c : Cursor) (k : Walks s p c) (more : More p c s.watches) where
  -- the node at the cursor
  abbrev node : ℕ
  node = node_at p c s.watches

  abbrev seconded : List ℕ
  seconded = false_second (neg p) (at_node s.clauses node)

  -- the false literal is second
  abbrev pub with_seconded : State
  with_seconded = with_blocks s s.trail s.watches (put_clause s.clauses (node_at p c s.watches / 2) (false_second (neg p) (at_node s.clauses (node_at p c s.watches))))

  -- a watch whose blocker is true stays as it is
  pub looked_blocked : (c' : Cursor) → is_true s.trail.vars.values (get_or s.watches.blockers (node_at p c s.watches) 0) ≡ true
      → On p c' s.watches → c'.passed ≡ c.passed + 1 → Looked s s p c (node_at p c s.watches) (some c')
  looked_blocked c' t st ec =
      let a : Aside s s = record { sized = k.still.sized; beside = record { config = refl; scratch = refl; finals = refl }; pushed = refl } in
      record {
        went = after_stays s p c k more s a (state_at s) c' st ec (the_watch s p c k more) (look-blocked p (the_watch s p c k more) (state_at s) seconded refl t) (sym (listed_now s p c k more));
        beside = a.beside;
      }

  pub clause_there : at_node with_seconded.clauses (node_at p c s.watches) ≡ false_second (neg p) (at_node s.clauses (node_at p c s.watches))
  clause_there = get_or-set_same s.clauses.clauses (node / 2) seconded [] (the_look s p c k more).inside

  -- and it can be looked at
  pub lookable_there : Lookable s.config.vars p (length s.trail.vars.trail) s.trail.vars.values (at_node with_seconded.clauses (node_at p c s.watches))
  lookable_there = subst (Lookable s.config.vars p (length s.trail.vars.trail) s.trail.vars.values) (sym clause_there) (lookable s p c k more)

  -- the watch at the cursor has the blocker b
  blocked_watches : (b : ℕ) (w : Watches) → w ≡ blocked node b s.watches
      → as_watches w ≡ set (as_watches s.watches) p (kept_now s p c k more ++ (record { clause = node / 2; blocker = b } ∷ rest_now s p c k more))
  blocked_watches b w e =
      ap as_watches e ∙ steps.watch_blocked s.watches (chained s k.still.sized) p (in_lists s p c k more) c.passed more b

  -- the watch at the cursor has gone to the list of m
  moved_watches : (m b : ℕ) (w : Watches) → m < length s.watches.lists → p ≢ m → w ≡ moved p c.passed m b s.watches
      → as_watches w ≡ set (push_watch (as_watches s.watches) m (record { clause = node / 2; blocker = b })) p (kept_now s p c k more ++ rest_now s p c k more)
  moved_watches m b w hm ne e =
      ap as_watches e
      ∙ steps.watch_gone s.watches (chained s k.still.sized) p (in_lists s p c k more) c.passed more m b hm ne
      ∙ push-set (as_watches s.watches) p m (kept_now s p c k more ++ rest_now s p c k more) (record { clause = node / 2; blocker = b }) (λ q. ne (sym q))

  module _ (s' : State) (o : Option Cursor) (t : is_true s.trail.vars.values (get_or s.watches.blockers (node_at p c s.watches) 0) ≡ false) where
    abbrev to_do : Definition.Propagated
    to_do = to_visit p c.passed (state_at s)

    finish : (s₂ : State) (r : Option Cursor) → s' ≡ s₂ → o ≡ r → Aside s s₂ → Went s₂ p (left p c s.watches) node to_do r → Looked s s' p c node o
    finish s₂ r es eo a y = subst₂ (λ (x : State) (q : Option Cursor). Looked s x p c node q) (sym es) (sym eo) (record { went = y; beside = a.beside })

    looked_passes : (r : Cursor) (w : Watches) → is_true s.trail.vars.values (get_or seconded 0 0) ≡ true → Passed s.watches w p (get_or seconded 0 0) c node r
        → s' ≡ with_blocks with_seconded s.trail w with_seconded.clauses → o ≡ some r → Looked s s' p c node o
    looked_passes r w f u es eo =
        let s₂ = with_blocks with_seconded s.trail w with_seconded.clauses in
        let b = get_or seconded 0 0 in
        let fits : Chained s.watches w = subst (Chained s.watches) (sym u.holds) (blocked_chained node b s.watches) in
        let a : Aside s s₂ = aside_blocks s k.still.sized s.trail w with_seconded.clauses (record { values = refl; watches = fits; room = refl; lit_room = refl }) refl in
        finish s₂ (some r) es eo a
        (after_stays s p c k more s₂ a _ r u.on u.passed _ (look_first p (the_watch s p c k more) (state_at s) seconded refl t f)
        (ap (state_with s s.trail with_seconded.clauses.clauses) (blocked_watches b w u.holds)))

    looked_moves : (j : ℕ) (w : Watches) → is_true s.trail.vars.values (get_or seconded 0 0) ≡ false
        → new_watch s.trail.vars.values 2 (drop 2 seconded) ≡ some j
        → Gone w p (neg (get_or seconded j 0)) (get_or seconded 0 0) s.watches c
        → s' ≡ with_blocks with_seconded s.trail w (exchanged with_seconded.clauses node p j) → o ≡ some c → Looked s s' p c node o
    looked_moves j w f nw u es eo =
        let cl = exchanged with_seconded.clauses node p j in
        let s₂ = with_blocks with_seconded s.trail w cl in
        let x = movable s k.still.sized p (length s.trail.vars.trail) seconded (lookable s p c k more) j nw in
        let m = neg (get_or seconded j 0) in
        let b = get_or seconded 0 0 in
        let fits : Chained s.watches w = subst (Chained s.watches) (sym u.holds) (moved_chained p c.passed m b s.watches (in_lists s p c k more) more x.range x.other) in
        let a : Aside s s₂ = aside_blocks s k.still.sized s.trail w cl (record { values = refl; watches = fits; room = refl; lit_room = refl }) refl in
        let cs : cl.clauses ≡ set s.clauses.clauses (node / 2) (set (set seconded 1 (get_or seconded j 0)) j (neg p)) =
        set-set s.clauses.clauses (node / 2) seconded (set (set (at_node with_seconded.clauses node) 1 (get_or (at_node with_seconded.clauses node) j 0)) j (neg p))
        ∙ ap (λ (l : List ℕ). set s.clauses.clauses (node / 2) (set (set l 1 (get_or l j 0)) j (neg p))) clause_there
        in
        finish s₂ (some c) es eo a
        (after_goes s p c k more s₂ a _ u.stands (look_found p (the_watch s p c k more) (state_at s) seconded refl t f j nw)
        (ap (λ (l : List (List ℕ)). state_with s s.trail l (as_watches w)) cs
        ∙ ap (state_with s s.trail (set s.clauses.clauses (node / 2) (set (set seconded 1 (get_or seconded j 0)) j (neg p)))) (moved_watches m b w x.range x.other u.holds)))

    looked_settles : (v : Assignment) (w : Watches) → is_true s.trail.vars.values (get_or seconded 0 0) ≡ false
        → new_watch s.trail.vars.values 2 (drop 2 seconded) ≡ none
        → Settles s.trail v s.watches w p (get_or seconded 0 0) c node o
        → s' ≡ with_blocks with_seconded v w with_seconded.clauses → Looked s s' p c node o
    looked_settles v w f nw (clashes ff ev ew eo) es =
        let s₂ = with_blocks with_seconded s.trail w with_seconded.clauses in
        let b = get_or seconded 0 0 in
        let fits : Chained s.watches w = subst (Chained s.watches) (sym ew) (blocked_chained node b s.watches) in
        let a : Aside s s₂ = aside_blocks s k.still.sized s.trail w with_seconded.clauses (record { values = refl; watches = fits; room = refl; lit_room = refl }) refl in
        finish s₂ none (es ∙ ap (λ (x : Assignment). with_blocks with_seconded x w with_seconded.clauses) ev) eo a
        (after_clash s p c k more s₂ a _ _ (look_false p (the_watch s p c k more) (state_at s) seconded refl t f nw ff)
        (ap (λ (ws : List (List Watch)). model.with_qhead (state_with s s.trail with_seconded.clauses.clauses ws) (length s.trail.vars.trail)) (blocked_watches b w ew)))
    looked_settles v w f nw (sets r ff ev u eo) es =
        let b = get_or seconded 0 0 in
        let x = enqueued s.trail b (node / 2) in
        let s₂ = with_blocks with_seconded x w with_seconded.clauses in
        let fits : Chained s.watches w = subst (Chained s.watches) (sym u.holds) (blocked_chained node b s.watches) in
        let a : Aside s s₂ = aside_blocks s k.still.sized x w with_seconded.clauses (record { values = enqueued_values s.trail b (node / 2); watches = fits; room = refl; lit_room = refl }) refl in
        finish s₂ (some r) (es ∙ ap (λ (x : Assignment). with_blocks with_seconded x w with_seconded.clauses) ev) eo a
        (after_stays s p c k more s₂ a _ r u.on u.passed _ (look-unit p (the_watch s p c k more) (state_at s) seconded refl t f nw ff)
        (ap (state_with s x with_seconded.clauses.clauses) (blocked_watches b w u.holds)))

    -- what came of the watch
    pub looked : Looks with_seconded s' p c (node_at p c s.watches) o → Looked s s' p c (node_at p c s.watches) o
    looked (passes r w f u es eo) =
        looked_passes r w (subst (λ (l : List ℕ). is_true s.trail.vars.values (get_or l 0 0) ≡ true) clause_there f)
        (subst (λ (l : List ℕ). Passed s.watches w p (get_or l 0 0) c node r) clause_there u) es eo
    looked (moves j w f nw u es eo) =
        looked_moves j w (subst (λ (l : List ℕ). is_true s.trail.vars.values (get_or l 0 0) ≡ false) clause_there f)
        (subst (λ (l : List ℕ). new_watch s.trail.vars.values 2 (drop 2 l) ≡ some j) clause_there nw)
        (subst (λ (l : List ℕ). Gone w p (neg (get_or l j 0)) (get_or l 0 0) s.watches c) clause_there u) es eo
    looked (settles v w f nw u es) =
        looked_settles v w (subst (λ (l : List ℕ). is_true s.trail.vars.values (get_or l 0 0) ≡ false) clause_there f)
        (subst (λ (l : List ℕ). new_watch s.trail.vars.values 2 (drop 2 l) ≡ none) clause_there nw)
        (subst (λ (l : List ℕ). Settles s.trail v s.watches w p (get_or l 0 0) c node o) clause_there u) es
