-- `look`, `visit` and `propagate` a step at a time. A walk over the watches of p never reads the list of p itself, so that the list may stand in its
-- place meanwhile: what has stayed, and what is still to come.
use Prim.Native.Nat.{ℕ, zero, suc, ◌≤◌, ◌<◌}
use Rattle.std.proofs.Common.{arith, sym, ap, ap₂, subst, ◌∙◌, drop_of_length-le, take_all, set-set, get_or-set_same, get_or-set_other, ne_eqb, lt-ltb, le-ltb}
use Rattle.std.specs.Prelude.{◌≡◌, ◌≢◌, Bool, true, false, not, ◌&&◌, List, [], ◌∷◌, ◌++◌, eqb, length, get_or, set, take, drop}
use Rattle.std.proofs.Math.Path.{refl}
use Rattle.std.specs.Prelude.{Option, None as none, Some as some}
use Rattle.std.proofs.lemmas.List.{set_comm}
use Rattle.model.specs.Lit.{neg, no_reason, is_true, is_false}
use Rattle.model.specs.Script.{Config}
use Rattle.model.specs.State.{Watch, State, clause_at, with_watches, with_vars, with_qhead}
use Rattle.model.specs.Store.{push_watch}
use Rattle.model.specs.Trail.{unchecked_enqueue}
use Rattle.model.specs.Propagate.{false_second, new_watch, Looked, stays, goes, false_clause, look, Propagated, visit, propagate}
use Rattle.lawbase.specs.Basics.{split, same?}
use Rattle.lawbase.specs.WellFormed.{WellFormed}
use Rattle.watch.specs.Walk.{kept_goes, rest_goes, kept_stays, rest_stays}
use Rattle.watching.specs.Reorder.{listed}
use Rattle.watching.specs.Look.{put, blocked_by}
use Rattle.watching.specs.Propagate.{turn}
use Rattle.watching.proofs.Propagate.{listed_same, propagate_enough}

-- ---- the outcomes of `look`

module _ (p : ℕ) (w : Watch) (s : State) (c : List ℕ) where
  abbrev last_test : Bool → Looked
  last_test true = false_clause (blocked_by w (get_or c 0 0)) (put s w.clause c)
  last_test false = stays (blocked_by w (get_or c 0 0)) (with_vars (put s w.clause c) (unchecked_enqueue s.vars (get_or c 0 0) w.clause))

  abbrev search_test : Option ℕ → Looked
  search_test (some k) =
      goes
      (with_watches (put s w.clause (set (set c 1 (get_or c k 0)) k (neg p)))
      (push_watch s.store.watches (neg (get_or c k 0)) (blocked_by w (get_or c 0 0))))
  search_test none = last_test (is_false s.vars.values (get_or c 0 0))

  abbrev first_test : Bool → Looked
  first_test true = stays (blocked_by w (get_or c 0 0)) (put s w.clause c)
  first_test false = search_test (new_watch s.vars.values 2 (drop 2 c))

  abbrev blocker_test : Bool → Looked
  blocker_test true = stays w s
  blocker_test false = first_test (not (eqb (get_or c 0 0) w.blocker) && is_true s.vars.values (get_or c 0 0))

look_is : (p : ℕ) (w : Watch) (s : State)
    → look p w s ≡ blocker_test p w s (false_second (neg p) (clause_at s.store w.clause)) (is_true s.vars.values w.blocker)
unfolding look
look_is p w s = refl

-- where the blocker is not true, the first literal is true only if it is another
other_first : (values : List ℕ) (a b : ℕ) → is_true values b ≡ false → (not (eqb a b) && is_true values a) ≡ is_true values a
other_first values a b h =
    split (same? a b)
    (λ e. same_value (eqb a b) (is_true values a) (subst (λ x. is_true values x ≡ false) (sym e) h))
    (λ n. subst (λ t. (not t && is_true values a) ≡ is_true values a) (sym (ne_eqb a b n)) refl)
  where
    same_value : (t u : Bool) → u ≡ false → (not t && u) ≡ u
    same_value true u e = sym e
    same_value false u e = refl

module _ (p : ℕ) (w : Watch) (s : State) (c : List ℕ) (ec : false_second (neg p) (clause_at s.store w.clause) ≡ c) where
  pub look-blocked : is_true s.vars.values w.blocker ≡ true → look p w s ≡ stays w s
  look-blocked e = look_is p w s ∙ ap (λ t. blocker_test p w s (false_second (neg p) (clause_at s.store w.clause)) t) e

  to_first : is_true s.vars.values w.blocker ≡ false → look p w s ≡ first_test p w s c (is_true s.vars.values (get_or c 0 0))
  to_first e =
      look_is p w s
      ∙ ap₂ (λ d t. blocker_test p w s d t) ec e
      ∙ ap (λ t. first_test p w s c t) (other_first s.vars.values (get_or c 0 0) w.blocker e)

  module _ (e : is_true s.vars.values w.blocker ≡ false) where
    pub look_first : is_true s.vars.values (get_or c 0 0) ≡ true → look p w s ≡ stays (blocked_by w (get_or c 0 0)) (put s w.clause c)
    look_first f = to_first e ∙ ap (first_test p w s c) f

    module _ (f : is_true s.vars.values (get_or c 0 0) ≡ false) where
      to_search : look p w s ≡ search_test p w s c (new_watch s.vars.values 2 (drop 2 c))
      to_search = to_first e ∙ ap (first_test p w s c) f

      pub look_found : (k : ℕ) → new_watch s.vars.values 2 (drop 2 c) ≡ some k
          → look p w s ≡ goes (with_watches (put s w.clause (set (set c 1 (get_or c k 0)) k (neg p))) (push_watch s.store.watches (neg (get_or c k 0)) (blocked_by w (get_or c 0 0))))
      look_found k n = to_search ∙ ap (search_test p w s c) n

      pub look_false : new_watch s.vars.values 2 (drop 2 c) ≡ none → is_false s.vars.values (get_or c 0 0) ≡ true
          → look p w s ≡ false_clause (blocked_by w (get_or c 0 0)) (put s w.clause c)
      look_false n g = to_search ∙ ap (search_test p w s c) n ∙ ap (last_test p w s c) g

      pub look-unit : new_watch s.vars.values 2 (drop 2 c) ≡ none → is_false s.vars.values (get_or c 0 0) ≡ false
          → look p w s ≡ stays (blocked_by w (get_or c 0 0)) (with_vars (put s w.clause c) (unchecked_enqueue s.vars (get_or c 0 0) w.clause))
      look-unit n g = to_search ∙ ap (search_test p w s c) n ∙ ap (last_test p w s c) g

-- ---- whatever stands in the list of p meanwhile

-- two outcomes that differ in the list of p only
data Alike (p : ℕ) : Looked → Looked → Type 0 where
  stay_alike : (w : Watch) (a b : List Watch) (s : State) → Alike p (stays w (listed p a s)) (stays w (listed p b s))
  go_alike : (a b : List Watch) (s : State) → Alike p (goes (listed p a s)) (goes (listed p b s))
  clash_alike : (w : Watch) (a b : List Watch) (s : State) → Alike p (false_clause w (listed p a s)) (false_clause w (listed p b s))

pub push-set : (ws : List (List Watch)) (l m : ℕ) (v : List Watch) (w : Watch) → m ≢ l → push_watch (set ws l v) m w ≡ set (push_watch ws m w) l v
unfolding push_watch
push-set ws l m v w n = rw (get_or-set_other ws l m v [] n) (set_comm ws l m v (get_or ws m [] ++ (w ∷ [])) (λ e. n (sym e)))

push_same : (ws : List (List Watch)) (l : ℕ) (v : List Watch) (w : Watch) → push_watch (set ws l v) l w ≡ set ws l (get_or (set ws l v) l [] ++ (w ∷ []))
unfolding push_watch
push_same ws l v w = set-set ws l v (get_or (set ws l v) l [] ++ (w ∷ []))

module _ (p : ℕ) (w : Watch) (a b : List Watch) (s : State) where
  go_to : (d : List ℕ) (m : ℕ) (v : Watch)
      → Alike p (goes (with_watches (put (listed p a s) w.clause d) (push_watch (listed p a s).store.watches m v)))
      (goes (with_watches (put (listed p b s) w.clause d) (push_watch (listed p b s).store.watches m v)))
  go_to d m v =
      split (same? m p)
      (λ e. rw (e, push_same s.store.watches p a v, push_same s.store.watches p b v)
      (go_alike (get_or (set s.store.watches p a) p [] ++ (v ∷ [])) (get_or (set s.store.watches p b) p [] ++ (v ∷ [])) (put s w.clause d)))
      (λ n. rw (push-set s.store.watches p m a v n, push-set s.store.watches p m b v n)
      (go_alike a b (with_watches (put s w.clause d) (push_watch s.store.watches m v))))

  module _ (c : List ℕ) where
    alike_last : (t : Bool) → Alike p (last_test p w (listed p a s) c t) (last_test p w (listed p b s) c t)
    alike_last true = clash_alike (blocked_by w (get_or c 0 0)) a b (put s w.clause c)
    alike_last false = stay_alike (blocked_by w (get_or c 0 0)) a b (with_vars (put s w.clause c) (unchecked_enqueue s.vars (get_or c 0 0) w.clause))

    alike_search : (o : Option ℕ) → Alike p (search_test p w (listed p a s) c o) (search_test p w (listed p b s) c o)
    alike_search (some k) = go_to (set (set c 1 (get_or c k 0)) k (neg p)) (neg (get_or c k 0)) (blocked_by w (get_or c 0 0))
    alike_search none = alike_last (is_false s.vars.values (get_or c 0 0))

    alike_first : (t : Bool) → Alike p (first_test p w (listed p a s) c t) (first_test p w (listed p b s) c t)
    alike_first true = stay_alike (blocked_by w (get_or c 0 0)) a b (put s w.clause c)
    alike_first false = alike_search (new_watch s.vars.values 2 (drop 2 c))

    alike_blocker : (t : Bool) → Alike p (blocker_test p w (listed p a s) c t) (blocker_test p w (listed p b s) c t)
    alike_blocker true = stay_alike w a b s
    alike_blocker false = alike_first (not (eqb (get_or c 0 0) w.blocker) && is_true s.vars.values (get_or c 0 0))

  look_alike : Alike p (look p w (listed p a s)) (look p w (listed p b s))
  unfolding look
  look_alike = alike_blocker (false_second (neg p) (clause_at s.store w.clause)) (is_true s.vars.values w.blocker)

-- the walk after an outcome
abbrev after : ℕ → List Watch → Watch → List Watch → Looked → Propagated
after p kept w ws o =
    elim o [
      | stays w' s' ↦ visit p (kept ++ (w' ∷ [])) ws s'
      | goes s' ↦ visit p kept ws s'
      | false_clause w' s' ↦
          record {
            state = with_qhead (with_watches s' (set s'.store.watches p (kept ++ (w' ∷ ws)))) (length s'.vars.trail);
            conflict = some w.clause;
          }
    ]

visit_is : (p : ℕ) (kept : List Watch) (w : Watch) (ws : List Watch) (s : State) → visit p kept (w ∷ ws) s ≡ after p kept w ws (look p w s)
unfolding visit
visit_is p kept w ws s = refl

alike_after : (p : ℕ) (kept : List Watch) (w : Watch) (ws : List Watch) (o o' : Looked) → Alike p o o'
    → ((kept a b : List Watch) (s : State) → visit p kept ws (listed p a s) ≡ visit p kept ws (listed p b s)) → after p kept w ws o ≡ after p kept w ws o'
alike_after p kept w ws o o' (stay_alike v a b s) r = r (kept ++ (v ∷ [])) a b s
alike_after p kept w ws o o' (go_alike a b s) r = r kept a b s
alike_after p kept w ws o o' (clash_alike v a b s) r =
    ap (λ (l : List (List Watch)). record { state = with_qhead (with_watches s l) (length s.vars.trail); conflict = some w.clause })
    (set-set s.store.watches p a (kept ++ (v ∷ ws)) ∙ sym (set-set s.store.watches p b (kept ++ (v ∷ ws))))

either_list : (p : ℕ) (ws kept a b : List Watch) (s : State) → visit p kept ws (listed p a s) ≡ visit p kept ws (listed p b s)
unfolding visit
either_list p [] kept a b s =
    ap (λ (l : List (List Watch)). record { state = with_watches s l; conflict = none }) (set-set s.store.watches p a kept ∙ sym (set-set s.store.watches p b kept))
either_list p (w ∷ ws) kept a b s =
    alike_after p kept w ws (look p w (listed p a s)) (look p w (listed p b s)) (look_alike p w a b s) (λ k a b s. either_list p ws k a b s)

pub visit_stale : (p : ℕ) (kept ws a : List Watch) (s : State) → visit p kept ws (listed p a s) ≡ visit p kept ws s
visit_stale p kept ws a s = either_list p ws kept a (get_or s.store.watches p []) s ∙ ap (visit p kept ws) (listed_same s p)

-- ---- a walk by how many watches have stayed

abbrev pub list_at : ℕ → State → List Watch
list_at p s = get_or s.store.watches p []

-- what is left to do where i watches of p have stayed
abbrev pub to_visit : ℕ → ℕ → State → Propagated
to_visit p i s = visit p (take i (list_at p s)) (drop i (list_at p s)) s

pub visit_end : (p i : ℕ) (s : State) → length (list_at p s) ≤ i → to_visit p i s ≡ record { state = s; conflict = none }
unfolding visit
visit_end p i s h =
    rw (drop_of_length-le (list_at p s) h, take_all i (list_at p s) h) (ap (λ (x : State). record { state = x; conflict = none }) (listed_same s p))

module _ (p i : ℕ) (s : State) (h : i < length (list_at p s)) (w : Watch) (here : drop i (list_at p s) ≡ w ∷ drop (suc i) (list_at p s)) where
  to_after : to_visit p i s ≡ after p (take i (list_at p s)) w (drop (suc i) (list_at p s)) (look p w s)
  to_after = ap (λ (ws : List Watch). visit p (take i (list_at p s)) ws s) here ∙ visit_is p (take i (list_at p s)) w (drop (suc i) (list_at p s)) s

  module _ (t s' : State) (inside : p < length t.store.watches) where
    -- the walk goes on in a state whose list of p is kept and the rest
    on_from : (j : ℕ) (kept l : List Watch) → s' ≡ listed p l t → take j l ≡ kept → drop j l ≡ drop (suc i) (list_at p s) → to_visit p j s' ≡ visit p kept (drop (suc i) (list_at p s)) t
    on_from j kept l f ek er =
        ap (to_visit p j) f
        ∙ ap (λ (xs : List Watch). visit p (take j xs) (drop j xs) (listed p l t)) (get_or-set_same t.store.watches p l [] inside)
        ∙ visit_stale p (take j l) (drop j l) l t
        ∙ ap₂ (λ (k r : List Watch). visit p k r t) ek er

    pub visit_stays : (w' : Watch) → look p w s ≡ stays w' t → s' ≡ listed p (take i (list_at p s) ++ (w' ∷ drop (suc i) (list_at p s))) t → to_visit p (suc i) s' ≡ to_visit p i s
    visit_stays w' e f =
        on_from (suc i) (take i (list_at p s) ++ (w' ∷ [])) (take i (list_at p s) ++ (w' ∷ drop (suc i) (list_at p s))) f (kept_stays i (list_at p s) h w') (rest_stays i (list_at p s) h w')
        ∙ sym (to_after ∙ ap (after p (take i (list_at p s)) w (drop (suc i) (list_at p s))) e)

    pub visit_goes : look p w s ≡ goes t → s' ≡ listed p (take i (list_at p s) ++ drop (suc i) (list_at p s)) t → to_visit p i s' ≡ to_visit p i s
    visit_goes e f =
        on_from i (take i (list_at p s)) (take i (list_at p s) ++ drop (suc i) (list_at p s)) f (kept_goes i (list_at p s) h) (rest_goes i (list_at p s) h)
        ∙ sym (to_after ∙ ap (after p (take i (list_at p s)) w (drop (suc i) (list_at p s))) e)

  pub visit_clash : (t : State) (w' : Watch) → look p w s ≡ false_clause w' t
      → to_visit p i s ≡ record { state = with_qhead (listed p (take i (list_at p s) ++ (w' ∷ drop (suc i) (list_at p s))) t) (length t.vars.trail); conflict = some w.clause }
  visit_clash t w' e = to_after ∙ ap (after p (take i (list_at p s)) w (drop (suc i) (list_at p s))) e

-- ---- `propagate`, a turn at a time

-- after a turn
abbrev onwards : ℕ → Propagated → Propagated
onwards k r = elim r.conflict [ none ↦ propagate k r.state | some c ↦ r ]

module _ (cfg : Config) (small : cfg.max_clauses ≤ no_reason) (s : State) (formed : WellFormed cfg s) where
  pub propagate_end : length s.vars.trail ≤ s.qhead → propagate cfg.variables s ≡ record { state = s; conflict = none }
  unfolding propagate
  propagate_end le = idle cfg.variables
    where
      idle : (k : ℕ) → propagate k s ≡ record { state = s; conflict = none }
      idle zero = refl
      idle (suc k) = rw (le-ltb s.qhead (length s.vars.trail) le, propagate)

  module _ (lt : s.qhead < length s.vars.trail) where
    one_turn : (k : ℕ) → propagate (suc k) s ≡ onwards k (turn s)
    unfolding propagate
    one_turn k = rw (lt-ltb s.qhead (length s.vars.trail) lt, propagate)

    pub propagate_turn : propagate cfg.variables s ≡ onwards cfg.variables (turn s)
    propagate_turn = sym (propagate_enough cfg small (suc cfg.variables) s formed (omega arith)) ∙ one_turn cfg.variables

    pub propagate_on : (t : State) → turn s ≡ record { state = t; conflict = none } → propagate cfg.variables s ≡ propagate cfg.variables t
    propagate_on t e = propagate_turn ∙ ap (onwards cfg.variables) e

    pub propagate_clash : (t : State) (c : ℕ) → turn s ≡ record { state = t; conflict = some c } → propagate cfg.variables s ≡ record { state = t; conflict = some c }
    propagate_clash t c e = propagate_turn ∙ ap (onwards cfg.variables) e
