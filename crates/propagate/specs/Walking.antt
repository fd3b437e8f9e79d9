-- One watch of a walk: what the blocks hold after it is what the definition has.
use Rattle.std.specs.Prelude.{ℕ, zero, suc, ◌+◌, ◌-◌, ◌*◌, ◌≤◌, ◌<◌, ◌≡◌, refl, ◌≢◌, List, [], ◌∷◌, ◌++◌, length, get_or, take, drop}
use Rattle.std.proofs.Common.{arith, not-suc-le-zero, sym, ap, subst, ◌∙◌, inl, inr, append_assoc, length-set, length-append, length-drop, take-append-drop, get_or-set_same, length-take-le}
use mathlib.Core.List.Memᴰ.{head as here}
use Rattle.std.specs.Prelude.{None as none, Some as some}
use Rattle.model.specs.Lit.{var, neg, no_reason}
use Rattle.model.specs.State as model
use Rattle.model.specs.State.{Watch}
use Rattle.model.specs.Propagate.{false_second, new_watch, stays, goes, false_clause, look}
use Rattle.lawbase.specs.Basics as basics
use Rattle.lawbase.specs.Basics.{◌∈◌, neg_range}
use Rattle.lawbase.specs.WellFormed.{WellFormed}
use Rattle.assign.proofs.Lists.{get_or_in}
use Rattle.assign.proofs.Reading.{trail_range, trail_room}
use Rattle.trail.specs.View.{Assignment}
use Rattle.store.specs.View.{Clauses}
use Rattle.watch.specs.View.{Watches, list_of, Chains, blocked, moved, appended, unlinked}
use Rattle.watch.specs.Laws.{node_below, chains-append, chains-without, free_without}
use Rattle.watch.specs.Meaning.{as_watch, as_watches, as_count, under_clauses, moved_is}
use Rattle.watch.specs.Sizes.{SameSizes, blocked_sizes, moved_sizes}
use Rattle.watch.specs.Steps as steps
use Rattle.watch.specs.declared.Cursor.{Cursor}
use Rattle.watching.specs.Reorder.{listed, Looking}
use Rattle.watching.proofs.Reorder.{looking}
use Rattle.watching.specs.Visit.{Walking, Falsified, Next}
use Rattle.watching.proofs.Visit.{first_of, looked_clause, new_other, unit-unset}
use Rattle.watching.proofs.Visited.{visit_formed}
use Rattle.watching.specs.Visit as wl
use Rattle.watching.proofs.Visit as wl_laws
use Rattle.watching.proofs.Propagate.{listed_same}
use Rattle.state.specs.declared.State.{State}
use Rattle.state.specs.Walk.{On, More, node_at}
use Rattle.state.specs.Still.{config_of, state_at, Sized, Still, Beside}
use Rattle.propagate.specs.Visit.{list_at, to_visit, visit_stays, visit_goes, visit_clash}
use Rattle.propagate.specs.View.{with_blocks, at_head, halted, Walks, left, Went, Paired, Movable, Lookable, at_node}
use Rattle.propagate.specs.Laws.{place_two, place_inside}

-- ---- the sizes stay

-- the lists of w' are as many as those of w, and their nodes stand as far apart
pub record Chained (w w' : Watches) : Type 0 where
  pub sizes : SameSizes w w'
  pub chains : (n : ℕ) → Chains n w.lists → Chains n w'.lists

pub blocked_chained : (y b : ℕ) (w : Watches) → Chained w (blocked y b w)
unfolding blocked
blocked_chained y b w = record { sizes = blocked_sizes y b w; chains = λ n k. k }

module _ (l i m b : ℕ) (w : Watches) (hl : l < length w.lists) (hi : i < length (list_of w l)) (hm : m < length w.lists) (ne : l ≢ m) where
  moved_chains : (n : ℕ) → Chains n w.lists → Chains n (appended m (get_or (list_of w l) i 0) b (unlinked l i w)).lists
  unfolding appended unlinked
  moved_chains n k =
      chains-append (unlinked l i w).lists m (get_or (list_of w l) i 0) (rw length-set hm) n (node_below n w.lists k.under l i hl hi)
      (free_without w.lists l i hl hi k.apart) (chains-without w.lists l i hl hi n k)

  pub moved_chained : Chained w (moved l i m b w)
  moved_chained = record { sizes = moved_sizes l i m b w; chains = λ n k. rw (moved_is l i m b w ne) (moved_chains n k) }

-- what the blocks keep of their sizes
pub record Resized (s : State) (t : Assignment) (w : Watches) (k : Clauses) : Type 0 where
  pub values : length t.vars.values ≡ length s.trail.vars.values
  pub watches : Chained s.watches w
  pub room : k.room ≡ s.clauses.room
  pub lit_room : k.lit_room ≡ s.clauses.lit_room

pub sized_blocks : (s : State) → Sized s → (t : Assignment) (w : Watches) (k : Clauses) → Resized s t w k → Sized (with_blocks s t w k)
sized_blocks s z t w k r =
    record {
      some = z.some;
      vars = z.vars;
      room = z.room;
      lit_room = z.lit_room;
      values = r.values ∙ z.values;
      marks = z.marks;
      buffer = z.buffer;
      stack = z.stack;
      notes = z.notes;
      lists = r.watches.sizes.lists ∙ z.lists;
      blockers = r.watches.sizes.blockers ∙ z.blockers;
      chains = r.watches.chains (2 * s.config.room) z.chains;
      clauses = r.room ∙ z.clauses;
      literals = r.lit_room ∙ z.literals;
      flags = z.flags;
      members = z.members;
    }

-- the lists' nodes are those of the blockers
pub chained : (s : State) → Sized s → Chains (length s.watches.blockers) s.watches.lists
chained s z = rw z.blockers z.chains

-- ---- another state, with nothing else changed

pub record Aside (s s' : State) : Type 0 where
  pub sized : Sized s'
  pub beside : Beside s s'
  pub pushed : s'.clauses.pushed ≡ s.clauses.pushed

pub aside_blocks : (s : State) → Sized s → (t : Assignment) (w : Watches) (k : Clauses) → Resized s t w k → k.pushed ≡ s.clauses.pushed → Aside s (with_blocks s t w k)
aside_blocks s z t w k r e = record { sized = sized_blocks s z t w k r; beside = record { config = refl; scratch = refl; finals = refl }; pushed = e }

pub aside_head : (s s' : State) (q : ℕ) → Aside s s' → Aside s (at_head s' q)
aside_head s s' q a =
    record { sized = a.sized; beside = record { config = a.beside.config; scratch = a.beside.scratch; finals = a.beside.finals }; pushed = a.pushed }

pub still_aside : (s s' : State) → Still s → Aside s s' → WellFormed (config_of s.config) (state_at s') → Still s'
still_aside s s' k a f =
    let e : Watch = record { clause = 0; blocker = 0 } in
    record {
      sized = a.sized;
      idle =
          record {
            marks = rw (a.beside.scratch, a.beside.config) k.idle.marks;
            final = rw a.beside.finals k.idle.final;
            pushed = a.pushed ∙ k.idle.pushed;
            nodes =
                under_clauses (length s'.clauses.clauses) s'.watches e
                (λ l i hl hi. (f.store.watched.known l (omega (arith, f.store.watched.lists)) (get_or (get_or (as_watches s'.watches) l []) i e) (get_or_in (get_or (as_watches s'.watches) l []) i e hi)).stored);
          };
      formed = rw a.beside.config f;
    }

-- ---- a walk at a watch

module _ (s : State) (p : ℕ) (c : Cursor) (k : Walks s p c) (more : More p c s.watches) where
  abbrev pub the_watch : Watch
  the_watch = as_watch s.watches.blockers (node_at p c s.watches)

  abbrev pub kept_now : List Watch
  kept_now = take c.passed (list_at p (state_at s))

  abbrev pub rest_now : List Watch
  rest_now = drop (suc c.passed) (list_at p (state_at s))

  in_range : p < 2 * s.config.vars
  in_range = trail_range k.still.formed.vars p k.on

  pub in_lists : p < length s.watches.lists
  in_lists = rw k.still.sized.lists in_range

  -- the node at the cursor is one of a clause that can be stored
  pub node_low : node_at p c s.watches < length s.watches.blockers
  node_low = steps.node_small s.watches (chained s k.still.sized) p in_lists c.passed more

  small : (config_of s.config).max_clauses ≤ no_reason
  small = omega (arith, k.still.sized.room)

  pub its_watch : drop c.passed (list_at p (state_at s)) ≡ the_watch ∷ rest_now
  its_watch = steps.watch_left s.watches (chained s k.still.sized) p in_lists c.passed more

  pub more_left : c.passed < length (list_at p (state_at s))
  more_left = omega (arith, as_count s.watches p)

  whole_list : kept_now ++ (the_watch ∷ rest_now) ≡ list_at p (state_at s)
  whole_list = ap (λ l. kept_now ++ l) (sym its_watch) ∙ take-append-drop c.passed (list_at p (state_at s))

  -- the list of p is what has stayed, the watch, and the rest
  pub listed_now : listed p (kept_now ++ (the_watch ∷ rest_now)) (state_at s) ≡ state_at s
  listed_now = ap (λ l. listed p l (state_at s)) whole_list ∙ listed_same (state_at s) p

  pub walking : Walking (config_of s.config) p s.qhead kept_now (the_watch ∷ rest_now) (state_at s)
  walking = record { formed = subst (WellFormed (config_of s.config)) (sym listed_now) k.still.formed; on = k.on; head = refl }

  pub the_look : Looking (config_of s.config) p the_watch (state_at s)
  the_look = looking (config_of s.config) p kept_now the_watch rest_now (state_at s) walking.formed k.on

  next_is : Next p (Walking (config_of s.config) p s.qhead) (Falsified (config_of s.config)) kept_now the_watch rest_now (look p the_watch (state_at s))
  next_is = visit_formed (config_of s.config) small p s.qhead kept_now the_watch rest_now (state_at s) walking

  -- how long the list is with what has stayed and the rest
  kept_size : length kept_now ≡ c.passed
  kept_size = length-take-le c.passed (list_at p (state_at s)) (omega (arith, more_left))

  rest_size : length rest_now ≡ length (list_of s.watches p) - suc c.passed
  rest_size = length-drop (suc c.passed) (list_at p (state_at s)) ∙ ap (λ n. n - suc c.passed) (as_count s.watches p)

  stay_size : (v : Watch) → length (kept_now ++ (v ∷ rest_now)) ≡ length (list_of s.watches p)
  stay_size v = length-append kept_now (v ∷ rest_now) ∙ omega (arith, kept_size, rest_size, more)

  go_size : suc (length (kept_now ++ rest_now)) ≡ length (list_of s.watches p)
  go_size = omega (arith, length-append kept_now rest_now, kept_size, rest_size, more)

  -- ---- after it

  module _ (s' : State) (a : Aside s s') where
    module _ (c' : Cursor) (st : On p c' s'.watches) (t : model.State) (kept : List Watch) (l : List Watch) where
      went_on : Walking (config_of s.config) p s.qhead kept rest_now t → kept ++ rest_now ≡ l → state_at s' ≡ listed p l t → p < length t.store.watches
          → suc (length l - c'.passed) ≡ left p c s.watches → to_visit p c'.passed (state_at s') ≡ to_visit p c.passed (state_at s)
          → Went s' p (left p c s.watches) (node_at p c s.watches) (to_visit p c.passed (state_at s)) (some c')
      went_on v el f inside size same =
          let e : state_at s' ≡ listed p (kept ++ rest_now) t = f ∙ ap (λ (m : List Watch). listed p m t) (sym el) in
          let n : length (list_of s'.watches p) ≡ length l =
          sym (as_count s'.watches p) ∙ ap (λ (s : model.State). length (list_at p s)) f ∙ ap length (get_or-set_same t.store.watches p l [] inside)
          in (
            record {
              still = still_aside s s' k.still a (subst (WellFormed (config_of s.config)) (sym e) v.formed);
              on = subst (λ (z : model.State). p ∈ z.vars.trail) (sym e) v.on;
              at = st;
            },
            ap (λ m. suc (m - c'.passed)) n ∙ size,
            same,
          )

    module _ (t : model.State) where
      inside : (l : List Watch) → WellFormed (config_of s.config) (listed p l t) → p < length t.store.watches
      inside l v = omega (arith, in_range, v.store.watched.lists, length-set t.store.watches p l)

      pub after_stays : (c' : Cursor) → On p c' s'.watches → c'.passed ≡ c.passed + 1 → (v : Watch) → look p the_watch (state_at s) ≡ stays v t
          → state_at s' ≡ listed p (kept_now ++ (v ∷ rest_now)) t
          → Went s' p (left p c s.watches) (node_at p c s.watches) (to_visit p c.passed (state_at s)) (some c')
      after_stays c' st ec v el f =
          let y : Walking (config_of s.config) p s.qhead (kept_now ++ (v ∷ [])) rest_now t = subst (Next p (Walking (config_of s.config) p s.qhead) (Falsified (config_of s.config)) kept_now the_watch rest_now) el next_is in
          let e : c'.passed ≡ suc c.passed = omega arith in
          went_on c' st t (kept_now ++ (v ∷ [])) (kept_now ++ (v ∷ rest_now)) y (append_assoc kept_now (v ∷ []) rest_now) f (inside _ y.formed)
          (omega (arith, stay_size v, more))
          (ap (λ i. to_visit p i (state_at s')) e ∙ visit_stays p c.passed (state_at s) more_left the_watch its_watch t (state_at s') (inside _ y.formed) v el f)

      pub after_goes : On p c s'.watches → look p the_watch (state_at s) ≡ goes t → state_at s' ≡ listed p (kept_now ++ rest_now) t
          → Went s' p (left p c s.watches) (node_at p c s.watches) (to_visit p c.passed (state_at s)) (some c)
      after_goes st el f =
          let y : Walking (config_of s.config) p s.qhead kept_now rest_now t = subst (Next p (Walking (config_of s.config) p s.qhead) (Falsified (config_of s.config)) kept_now the_watch rest_now) el next_is in
          went_on c st t kept_now (kept_now ++ rest_now) y refl f (inside _ y.formed)
          (omega (arith, go_size, more))
          (visit_goes p c.passed (state_at s) more_left the_watch its_watch t (state_at s') (inside _ y.formed) el f)

      pub after_clash : (v : Watch) → look p the_watch (state_at s) ≡ false_clause v t → state_at (halted s') ≡ wl.stopped p (kept_now ++ (v ∷ rest_now)) t
          → Went s' p (left p c s.watches) (node_at p c s.watches) (to_visit p c.passed (state_at s)) none
      after_clash v el f =
          let y : Falsified (config_of s.config) the_watch.clause (wl.stopped p (kept_now ++ (v ∷ rest_now)) t) = subst (Next p (Walking (config_of s.config) p s.qhead) (Falsified (config_of s.config)) kept_now the_watch rest_now) el next_is in (
            still_aside s (halted s') k.still (aside_head s s' (length s'.trail.vars.trail) a) (subst (WellFormed (config_of s.config)) (sym f) y.formed),
            visit_clash p c.passed (state_at s) more_left the_watch its_watch t v el
                ∙ ap (λ (z : model.State). record { state = z; conflict = some the_watch.clause }) (sym f),
          )

-- ---- what the code's functions ask

module _ (s : State) (p : ℕ) (c : Cursor) (k : Walks s p c) (more : More p c s.watches) where
  pub blocker_var : var (the_watch s p c k more).blocker < length s.trail.vars.values
  blocker_var =
      let l = the_look s p c k more in
      omega (arith, l.proper.range (the_watch s p c k more).blocker l.blocker, k.still.sized.values)

  -- the false literal is one of the clause's first two
  pub paired : (f : ℕ) → f ≡ neg p → Paired f (at_node s.clauses (node_at p c s.watches))
  paired f ef =
      let l = the_look s p c k more in
      record {
        two = l.proper.two;
        lits = λ i hi. omega (arith, l.proper.range (get_or (at_node s.clauses (node_at p c s.watches)) i 0) (get_or_in (at_node s.clauses (node_at p c s.watches)) i 0 hi), k.still.sized.vars);
        one = rw ef (basics.split l.shape.moved (λ m. inr (ap (λ (c : List ℕ). get_or c 1 0) m)) (λ m. inl (ap (λ (c : List ℕ). get_or c 0 0) m)));
      }

  pub seconded_is : false_second (neg p) (at_node s.clauses (node_at p c s.watches)) ≡ looked_clause (the_look s p c k more)
  seconded_is = (the_look s p c k more).shape.shape

  looked_lookable : Lookable s.config.vars p (length s.trail.vars.trail) s.trail.vars.values (looked_clause (the_look s p c k more))
  looked_lookable =
      let l = the_look s p c k more in
      let v = walking s p c k more in
      record {
        two = omega arith;
        lits = λ i hi. omega (arith, (wl_laws.whole l).range (get_or (looked_clause l) i 0) (get_or_in (looked_clause l) i 0 hi));
        other = other l;
        room = λ t f. trail_room k.still.formed.vars (first_of l) ((wl_laws.whole l).range (first_of l) (here refl)) (unit-unset v l t f);
      }
    where
      other : (l : Looking (config_of s.config) p (the_watch s p c k more) (state_at s)) (i : ℕ) → 2 ≤ i → i < length (looked_clause l) → p ≢ neg (get_or (looked_clause l) i 0)
      other l zero t hi q = absurd (not-suc-le-zero t)
      other l (suc zero) t hi q = omega arith
      other l (suc (suc j)) t hi q = new_other l j (omega arith) (sym q)

  -- the clause with its false literal second can be looked at
  pub lookable : Lookable s.config.vars p (length s.trail.vars.trail) s.trail.vars.values (false_second (neg p) (at_node s.clauses (node_at p c s.watches)))
  lookable = subst (Lookable s.config.vars p (length s.trail.vars.trail) s.trail.vars.values) (sym seconded_is) looked_lookable

-- it can be watched by the literal that the search found
pub movable : (s : State) → Sized s → (p m : ℕ) (l : List ℕ) → Lookable s.config.vars p m s.trail.vars.values l → (k : ℕ) → new_watch s.trail.vars.values 2 (drop 2 l) ≡ some k
    → Movable (length s.watches.lists) p l k
movable s z p m l a k e =
    let inside = place_inside s.trail.vars.values l k e in
    record {
      two = a.two;
      inside = inside;
      range = rw z.lists (neg_range (get_or l k 0) s.config.vars (omega (arith, a.lits k inside)));
      other = a.other k (place_two s.trail.vars.values l k e) inside;
    }
