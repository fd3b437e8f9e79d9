-- What the steps of a sized tour keep, and how each step keeps it.
use Rattle.std.specs.Prelude.{ℕ, ◌+◌, ◌*◌, ◌≤◌, ◌<◌, ◌≡◌, refl, ◌≢◌, Bool, true, false, not, ◌&&◌, ltb, leb, eqb, List, [], ◌∷◌, length, get_or, drop}
use Rattle.std.proofs.Common.{arith, ◌∙◌, sym, length-set, ltb-true}
use Rattle.std.proofs.lemmas.Bool.{eqb-false}
use Rattle.std.proofs.lemmas.List.{length-replicate}
use Rattle.model.specs.Lit.{var, sign, neg}
use Rattle.model.specs.Store.{stored_literals}
use Rattle.model.specs.Trail.{unchecked_enqueue, new_decision_level, vars_until, level_end}
use Rattle.assign.proofs.Cancel.{unset-length}
use Rattle.trail.specs.View.{Assignment, LitsOf, enqueued, next_level, until}
use Rattle.store.specs.View.{Clauses, put_pushed, closed}
use Rattle.watch.specs.View.{Watches, list_of, Chains, Under, appended, attached, unlinked, blocked, moved}
use Rattle.watch.specs.Laws.{node_below, chains-append, chains-without, free_without}
use Rattle.watch.specs.Meaning.{moved_is}
use Rattle.watch.specs.Sizes.{SameSizes, blocked_sizes, moved_sizes, attached_sizes}
use Rattle.watch.specs.Uses.{first_free, second_free}
use Rattle.litset.specs.View.{Members, inserted, emptied}
use Rattle.state.specs.declared.Config.{Config}
use Rattle.state.specs.declared.State.{State}
use Rattle.state.specs.Still.{Sized}
use Rattle.state.specs.Start.{Started}
use Rattle.state.specs.Fresh.{Fresh, stored_in, attached_in}
use Rattle.tour.specs.Live.{Live, live_sized, live_started, live_level, live_enqueued, live_until, live_blocked, live_moved, live_inserted, live_stored, storable, same_sizes, new_cell-length}
use Rattle.tour.specs.Steps.{pick, start_of, opened, placed, gone_back, reblocked, sent, added, finished, unfinished}

-- the blocks are as large as the configuration asks; the nodes in the lists are of stored clauses, and the literals of the trail of variables
pub record SizedLive (s : State) : Type 0 where
  pub sized : Sized s
  pub fresh : Fresh s.clauses s.watches
  pub lits : LitsOf s.config.vars s.trail.vars.trail

-- it is live
pub live : {s : State} → SizedLive s → Live s
live k = live_sized k.sized k.fresh k.lits

-- a live state with these sizes
both : {s : State} → Sized s → Live s → SizedLive s
both z k = record { sized = z; fresh = k.fresh; lits = k.lits }

-- the state at the start has no clause and nothing on the trail
pub sized_started : {g : Config} {w : List ℕ} {s : State} → Started g w s → SizedLive s
sized_started k = both k.has.still.sized (live_started k)

-- ---- the nodes of the lists stand apart

moved_chains : (n l i m b : ℕ) (w : Watches) → l < length w.lists → i < length (list_of w l) → m < length w.lists → l ≢ m → Chains n w.lists → Chains n (moved l i m b w).lists
unfolding appended unlinked
moved_chains n l i m b w hl hi hm ne k =
    rw (moved_is l i m b w ne)
    (chains-append (unlinked l i w).lists m (get_or (list_of w l) i 0) (rw length-set hm) n (node_below n w.lists k.under l i hl hi)
    (free_without w.lists l i hl hi k.apart) (chains-without w.lists l i hl hi n k))

attached_chains : (n c p q : ℕ) (w : Watches) → 2 * c + 1 < n → neg p < length w.lists → neg q < length w.lists → Under (2 * c) w.lists → Chains n w.lists → Chains n (attached c p q w).lists
unfolding attached appended
attached_chains n c p q w h hp hq u k =
    chains-append (appended (neg p) (2 * c) q w).lists (neg q) (2 * c + 1) (rw length-set hq) n h (second_free c p q w u hp)
    (chains-append w.lists (neg p) (2 * c) hp n (omega arith) (first_free c p q w u) k)

-- ---- the changes that steps make

module _ {s : State} (k : SizedLive s) where
  -- other contents, in blocks of the same sizes
  sized_of : (t : Assignment) (w : Watches) (c : Clauses) (f : Members) (q : ℕ) → length t.vars.values ≡ length s.trail.vars.values → SameSizes s.watches w
      → Chains (2 * s.config.room) w.lists → c.room ≡ s.clauses.room → c.lit_room ≡ s.clauses.lit_room → length f.flag_cells ≡ length s.finals.flag_cells
      → length f.item_cells ≡ length s.finals.item_cells → Live (record s { trail = t; watches = w; clauses = c; finals = f; qhead = q })
      → SizedLive (record s { trail = t; watches = w; clauses = c; finals = f; qhead = q })
  sized_of t w c f q hv hw hn hc hd hg hi l =
      let z = k.sized in
      both
      (record {
        some = z.some;
        vars = z.vars;
        room = z.room;
        lit_room = z.lit_room;
        values = hv ∙ z.values;
        marks = z.marks;
        buffer = z.buffer;
        stack = z.stack;
        notes = z.notes;
        lists = hw.lists ∙ z.lists;
        blockers = hw.blockers ∙ z.blockers;
        chains = hn;
        clauses = hc ∙ z.clauses;
        literals = hd ∙ z.literals;
        flags = hg ∙ z.flags;
        members = hi ∙ z.members;
      })
      l

  -- ---- on the trail

  sized_trail : (t : Assignment) (q : ℕ) → length t.vars.values ≡ length s.trail.vars.values → Live (record s { trail = t; qhead = q }) → SizedLive (record s { trail = t; qhead = q })
  sized_trail t q hv l = sized_of t s.watches s.clauses s.finals q hv (same_sizes s.watches) k.sized.chains refl refl refl refl l

  pub sized_level : SizedLive (record s { trail = next_level s.trail })
  unfolding new_decision_level
  sized_level = sized_trail (next_level s.trail) s.qhead refl (live_level (live k))

  pub sized_enqueued : (p from : ℕ) → var p < s.config.vars → SizedLive (record s { trail = enqueued s.trail p from })
  unfolding unchecked_enqueue
  sized_enqueued p from g = sized_trail (enqueued s.trail p from) s.qhead (length-set s.trail.vars.values (var p) (sign p)) (live_enqueued (live k) p from g)

  pub sized_until : (phase level q : ℕ) → SizedLive (record s { trail = until phase s.trail level; qhead = q })
  unfolding vars_until
  sized_until phase level q =
      sized_trail (until phase s.trail level) q (unset-length s.trail.vars.values (drop (level_end s.trail.vars level) s.trail.vars.trail)) (live_until (live k) phase level q)

  -- ---- in the watch lists

  sized_watches : (w : Watches) → SameSizes s.watches w → Chains (2 * s.config.room) w.lists → Live (record s { watches = w }) → SizedLive (record s { watches = w })
  sized_watches w hw hn l = sized_of s.trail w s.clauses s.finals s.qhead refl hw hn refl refl refl refl l

  pub sized_blocked : (x b : ℕ) → SizedLive (record s { watches = blocked x b s.watches })
  unfolding blocked
  sized_blocked x b = sized_watches (blocked x b s.watches) (blocked_sizes x b s.watches) k.sized.chains (live_blocked (live k) x b)

  pub sized_moved : (l i m b : ℕ) → l < 2 * s.config.vars → m < 2 * s.config.vars → l ≢ m → i < length (list_of s.watches l) → SizedLive (record s { watches = moved l i m b s.watches })
  sized_moved l i m b hl hm n hi =
      let apart = moved_chains (2 * s.config.room) l i m b s.watches (omega (arith, k.sized.lists)) hi (omega (arith, k.sized.lists)) n k.sized.chains in
      sized_watches (moved l i m b s.watches) (moved_sizes l i m b s.watches) apart (live_moved (live k) l i m b hl hm n hi)

  -- ---- in the final clause

  pub sized_inserted : (l : ℕ) → SizedLive (record s { finals = inserted s.finals l })
  sized_inserted l =
      let f = s.finals in
      sized_of s.trail s.watches s.clauses (inserted f l) s.qhead refl (same_sizes s.watches) k.sized.chains refl refl (new_cell-length f.items l f.flag_cells l 1)
      (new_cell-length f.items l f.item_cells (length f.items) l) (live_inserted (live k) l)

  -- ---- a clause of the literals ps

  module _ (ps : List ℕ) (room : length s.clauses.clauses < s.clauses.room) (two : 2 ≤ length ps) (hp : get_or ps 0 0 < 2 * s.config.vars) (hq : get_or ps 1 0 < 2 * s.config.vars) where
    pub sized_stored : SizedLive (stored_in (record s { clauses = put_pushed s.clauses ps }))
    sized_stored =
        let c = put_pushed s.clauses ps in
        let n = length s.clauses.clauses in
        let p = get_or ps 0 0 in
        let q = get_or ps 1 0 in
        let room_for = storable (live k) ps room two hp hq in
        let apart = attached_chains (2 * s.config.room) n p q s.watches (omega (arith, room, k.sized.clauses)) room_for.first room_for.second k.fresh.under k.sized.chains in
        sized_of s.trail (attached_in c s.watches) (closed c) s.finals s.qhead refl (attached_sizes n p q s.watches) apart refl refl refl refl (live_stored (live k) ps room two hp hq)

-- ---- the steps, taken where their tests say so

and_left : (a b : Bool) → (a && b) ≡ true → a ≡ true
and_left true b e = refl
and_left false b e = e

and_right : (a b : Bool) → (a && b) ≡ true → b ≡ true
and_right true b e = e
and_right false b e = let z : false ≡ true = e in cc

differ : (l m : ℕ) → not (eqb l m) ≡ true → l ≢ m
differ l m e = go (eqb l m) refl e
  where
    go : (b : Bool) → eqb l m ≡ b → not b ≡ true → l ≢ m
    go true f g = let z : false ≡ true = g in cc
    go false f g = eqb-false l m f

module _ {s : State} (k : SizedLive s) where
  when : (b : Bool) (r : State) → (b ≡ true → SizedLive r) → SizedLive (pick b r s)
  when true r f = f refl
  when false r f = k

  pub sized_opened : SizedLive (opened s)
  sized_opened = when _ _ (λ _. sized_level k)

  pub sized_placed : (p from : ℕ) → SizedLive (placed s p from)
  sized_placed p from = when _ _ (λ e. sized_enqueued k p from (ltb-true _ _ (and_right (ltb (length s.trail.vars.trail) s.config.vars) _ e)))

  pub sized_gone_back : (level phase : ℕ) → SizedLive (gone_back s level phase)
  sized_gone_back level phase = when _ _ (λ _. sized_until k phase level (start_of s level))

  pub sized_reblocked : (l b : ℕ) → SizedLive (reblocked s l b)
  sized_reblocked l b = when _ _ (λ _. sized_blocked k (get_or (list_of s.watches l) 0 0) b)

  pub sized_sent : (l m b : ℕ) → SizedLive (sent s l m b)
  sized_sent l m b =
      let n = 2 * s.config.vars in
      let more = ltb 0 (length (list_of s.watches l)) in
      when _ _
      (λ e.
      let e₁ = and_left (ltb l n && more && ltb m n) (not (eqb l m)) e in
      let e₂ = and_left (ltb l n && more) (ltb m n) e₁ in
      sized_moved k l 0 m b (ltb-true l n (and_left (ltb l n) more e₂)) (ltb-true m n (and_right (ltb l n && more) (ltb m n) e₁))
      (differ l m (and_right (ltb l n && more && ltb m n) (not (eqb l m)) e)) (ltb-true 0 _ (and_right (ltb l n) more e₂)))

  pub sized_added : (p q r : ℕ) → SizedLive (added s p q r)
  sized_added p q r =
      let n = 2 * s.config.vars in
      let clauses = ltb (length s.clauses.clauses) s.clauses.room in
      let literals = leb (stored_literals s.clauses.clauses + 3) s.clauses.lit_room in
      when _ _
      (λ e.
      let e₁ = and_left (clauses && literals && ltb p n) (ltb q n) e in
      let e₂ = and_left (clauses && literals) (ltb p n) e₁ in
      sized_stored k (p ∷ q ∷ r ∷ []) (ltb-true _ _ (and_left clauses literals e₂)) (omega arith) (ltb-true p n (and_right (clauses && literals) (ltb p n) e₁))
      (ltb-true q n (and_right (clauses && literals && ltb p n) (ltb q n) e)))

  pub sized_finished : (l : ℕ) → SizedLive (finished s l)
  sized_finished l = when _ _ (λ _. sized_inserted k l)

  pub sized_unfinished : SizedLive (unfinished s)
  sized_unfinished =
      let n = 2 * s.config.vars in
      let f = emptied n s.finals in
      let l = live k in
      sized_of k s.trail s.watches s.clauses f s.qhead refl (same_sizes s.watches) k.sized.chains refl refl (length-replicate n 0 ∙ sym l.flags) refl
      (record {
        some = l.some;
        vars = l.vars;
        values = l.values;
        lists = l.lists;
        nodes = l.nodes;
        flags = length-replicate n 0;
        members = l.members;
        fresh = l.fresh;
        lits = l.lits;
      })
