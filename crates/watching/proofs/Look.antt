-- What comes of one watch: the outcomes of `look`, as cases with their facts.
use Rattle.std.specs.Prelude.{◌≡◌, refl, ◌≢◌, ◌⊎◌, Bool, true, false, not, ◌&&◌, List, [], ◌∷◌, ℕ, suc, ◌≤◌, eqb, length, get_or, set, drop}
use Rattle.std.proofs.Common.{sym, subst, inl, inr, not-suc-le-zero, le_of_suc-le-suc, arith, eq-eqb, ne_eqb}
use Rattle.std.specs.Prelude.{Option, None as none, Some as some}
use Rattle.model.specs.Lit.{neg, is_true, is_false}
use Rattle.model.specs.State.{Watch, State, clause_at, with_watches, with_vars}
use Rattle.model.specs.Store.{push_watch}
use Rattle.model.specs.Trail.{unchecked_enqueue}
use Rattle.model.specs.Propagate.{false_second, new_watch, Looked, stays, goes, false_clause, look}
use Rattle.lawbase.specs.Basics.{Every, every_cons, every_nil, split, same?}
use Rattle.watching.specs.Permuted.{same, swap}
use Rattle.watching.specs.Look.{Seconded, Found, nowhere, at_place, blocked_by, put, Outcome, all_false, unit, new_found, first_true, blocker_true}

-- ---- the false literal second

second_kept : (f a b : ℕ) (r : List ℕ) → a ≢ f → b ≡ f → Seconded f (a ∷ b ∷ r)
unfolding false_second
second_kept f a b r n e =
    record {
      first = a;
      rest = r;
      shape = rw (ne_eqb a f n, false_second, e) refl;
      permuted = rw e same;
      moved = inl (rw e refl);
    }

second_moved : (f a b : ℕ) (r : List ℕ) → a ≡ f → Seconded f (a ∷ b ∷ r)
unfolding false_second
second_moved f a b r e =
    record {
      first = b;
      rest = r;
      shape = rw (eq-eqb a f e, false_second) refl;
      permuted = rw e (swap f b);
      moved = inr (rw e refl);
    }

pub seconded : (f : ℕ) (c : List ℕ) → 2 ≤ length c → (get_or c 0 0 ≡ f) ⊎ (get_or c 1 0 ≡ f) → Seconded f c
seconded f [] h w = absurd (not-suc-le-zero h)
seconded f (a ∷ []) h w = absurd (not-suc-le-zero (le_of_suc-le-suc h))
seconded f (a ∷ b ∷ r) h w =
    split (same? a f)
    (λ e. second_moved f a b r e)
    (λ n. second_kept f a b r n (split w (λ e. absurd (n e)) (λ e. e)))

-- ---- the first literal that is not false

module _ (values : List ℕ) (k l : ℕ) (ls : List ℕ) where
  found_later : is_false values l ≡ true → (o : Option ℕ) → Found values (suc k) ls o → Found values k (l ∷ ls) o
  found_later e o (nowhere h) = nowhere (every_cons (λ m. is_false values m ≡ true) e h)
  found_later e o (at_place i j g h n) = at_place i (suc j) (omega arith) (omega arith) n

  found_step : (b : Bool) → is_false values l ≡ b → (o : Option ℕ) → Found values (suc k) ls o
      → Found values k (l ∷ ls) (elim b [ false ↦ some k | true ↦ o ])
  found_step true e o h = found_later e o h
  found_step false e o h = at_place k 0 (omega arith) (omega arith) e

pub found : (values : List ℕ) (k : ℕ) (ls : List ℕ) → Found values k ls (new_watch values k ls)
unfolding new_watch
found values k [] = nowhere (every_nil (λ l. is_false values l ≡ true))
found values k (l ∷ ls) = found_step values k l ls (is_false values l) refl (new_watch values (suc k) ls) (found values (suc k) ls)

-- ---- the outcomes

-- `look` with c for the clause, from its last test to its first
module _ (p : ℕ) (w : Watch) (s : State) (c : List ℕ) where
  abbrev last_test : Bool → Looked
  last_test true = false_clause (blocked_by w (get_or c 0 0)) (put s w.clause c)
  last_test false = stays (blocked_by w (get_or c 0 0)) (with_vars (put s w.clause c) (unchecked_enqueue s.vars (get_or c 0 0) w.clause))

  abbrev moved_to : ℕ → Looked
  moved_to k =
      goes
      (with_watches (put s w.clause (set (set c 1 (get_or c k 0)) k (neg p)))
      (push_watch s.store.watches (neg (get_or c k 0)) (blocked_by w (get_or c 0 0))))

  abbrev search_test : Option ℕ → Looked
  search_test (some k) = moved_to k
  search_test none = last_test (is_false s.vars.values (get_or c 0 0))

  abbrev first_test : Bool → Looked
  first_test true = stays (blocked_by w (get_or c 0 0)) (put s w.clause c)
  first_test false = search_test (new_watch s.vars.values 2 (drop 2 c))

  abbrev blocker_test : Bool → Looked
  blocker_test true = stays w s
  blocker_test false = first_test (not (eqb (get_or c 0 0) w.blocker) && is_true s.vars.values (get_or c 0 0))

look_is : (p : ℕ) (w : Watch) (s : State)
    → look p w s ≡ blocker_test p w s (false_second (neg p) (clause_at s.store w.clause)) (is_true s.vars.values w.blocker)
unfolding look
look_is p w s = refl

-- the first literal is not true where the second test fails
not_true : (values : List ℕ) (a b : ℕ) → is_true values b ≡ false → (not (eqb a b) && is_true values a) ≡ false → is_true values a ≡ false
not_true values a b h g =
    split (same? a b)
    (λ e. subst (λ x. is_true values x ≡ false) (sym e) h)
    (λ n. subst (λ t. (not t && is_true values a) ≡ false) (ne_eqb a b n) g)

and_second : (t b : Bool) → (t && b) ≡ true → b ≡ true
and_second true b h = h
and_second false true h = refl
and_second false false h = h

module _ (p : ℕ) (w : Watch) (s : State) (a : ℕ) (r : List ℕ) where
  at_last : is_true s.vars.values a ≡ false → Every (λ l. is_false s.vars.values l ≡ true) r → (b : Bool) → is_false s.vars.values a ≡ b
      → Outcome p w s a r (last_test p w s (a ∷ neg p ∷ r) b)
  at_last n h true e = all_false h e
  at_last n h false e = unit h n e

  at_search : is_true s.vars.values a ≡ false → (o : Option ℕ) → Found s.vars.values 2 r o
      → Outcome p w s a r (search_test p w s (a ∷ neg p ∷ r) o)
  at_search n o (nowhere h) = at_last n h (is_false s.vars.values a) refl
  at_search n o (at_place k j e h f) =
      let g : suc (suc j) ≡ k = omega arith in
      subst (λ (i : ℕ). Outcome p w s a r (moved_to p w s (a ∷ neg p ∷ r) i)) g (new_found j h n f)

  at_first : is_true s.vars.values w.blocker ≡ false → (b : Bool) → (not (eqb a w.blocker) && is_true s.vars.values a) ≡ b
      → Outcome p w s a r (first_test p w s (a ∷ neg p ∷ r) b)
  at_first h true e = first_true (and_second (not (eqb a w.blocker)) (is_true s.vars.values a) e)
  at_first h false e = at_search (not_true s.vars.values a w.blocker h e) (new_watch s.vars.values 2 r) (found s.vars.values 2 r)

  at_blocker : (b : Bool) → is_true s.vars.values w.blocker ≡ b → Outcome p w s a r (blocker_test p w s (a ∷ neg p ∷ r) b)
  at_blocker true e = blocker_true e
  at_blocker false e = at_first e (not (eqb a w.blocker) && is_true s.vars.values a) refl

  pub outcome : false_second (neg p) (clause_at s.store w.clause) ≡ a ∷ neg p ∷ r → Outcome p w s a r (look p w s)
  outcome e =
      subst (λ (o : Looked). Outcome p w s a r o) (sym (look_is p w s))
      (subst (λ (c : List ℕ). Outcome p w s a r (blocker_test p w s c (is_true s.vars.values w.blocker))) (sym e)
      (at_blocker (is_true s.vars.values w.blocker) refl))
