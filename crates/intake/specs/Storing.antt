-- The buffer's literals become the next stored clause.
use Rattle.std.specs.Prelude.{ℕ, ◌+◌, ◌*◌, ◌≤◌, ◌<◌, ◌≡◌, List, [], ◌∷◌, ◌++◌, length, get_or, take}
use Rattle.std.proofs.Common.{arith, add-one, ap, sym, subst, ◌∙◌, take-suc, length-take-le, length-set}
use Rattle.model.specs.Lit.{neg}
use Rattle.model.specs.State as model
use Rattle.model.specs.Store.{stored_literals, attach_clause}
use Rattle.lawbase.specs.Basics.{neg_range}
use Rattle.scratch.specs.Row.{Row}
use Rattle.store.specs.View.{Clauses, next_lit, lit_pushed, put_pushed}
use Rattle.store.specs.Cells.{put_pushed_more}
use Rattle.watch.specs.View.{Watches, Under, Chains, appended, attached}
use Rattle.watch.specs.Laws.{chains-append}
use Rattle.watch.specs.Sizes.{attached_sizes}
use Rattle.watch.specs.Uses.{first_free, second_free}
use Rattle.state.specs.declared.State.{State}
use Rattle.state.specs.Fresh.{Fresh, Stored, stored_in}
use Rattle.state.specs.Fresh as fresh
use Rattle.state.specs.Still.{Sized, state_at}

-- no clause is under way, and there is room for the literals in b
pub record Storing (k : Clauses) (b : Row) : Type 0 where
  pub none : k.pushed ≡ []
  pub literals : stored_literals k.clauses + length b.items ≤ k.lit_room

-- the literals l are pushed
abbrev pub Pushing : Clauses → Clauses → List ℕ → Type 0
Pushing k k' l = k' ≡ put_pushed k l

module _ (k : Clauses) (b : Row) (s : Storing k b) where
  pub pushing_starts : Pushing k k []
  pushing_starts = ap (λ (l : List ℕ). record { clauses = k.clauses; pushed = l; room = k.room; lit_room = k.lit_room; start_cells = k.start_cells; lit_cells = k.lit_cells }) s.none

  module _ {k₁ : Clauses} {i : ℕ} (p : Pushing k k₁ (take i b.items)) (g : i < length b.items) where
    pub pushing_room : next_lit k₁ < k₁.lit_room
    pushing_room = rw p (omega (arith, s.literals, length-take-le i b.items (omega arith)))

    pub pushing_turns : (x : ℕ) → x ≡ get_or b.items i 0 → Pushing k (lit_pushed k₁ x) (take (i + 1) b.items)
    pushing_turns x q =
        let e : take (i + 1) b.items ≡ take i b.items ++ (x ∷ []) = rw (q, add-one) (take-suc b.items i 0 g) in
        rw (p, e) (put_pushed_more k (take i b.items) x)

-- ---- the state

-- the buffer's literals may be stored: no clause is under way, there is room, and the first two have watch lists
pub record Storable (s : State) : Type 0 where
  pub sized : Sized s
  pub fresh : Fresh s.clauses s.watches
  pub none : s.clauses.pushed ≡ []
  pub room : length s.clauses.clauses < s.config.room
  pub literals : stored_literals s.clauses.clauses + length s.scratch.buffer.items ≤ s.config.lit_room
  pub two : 2 ≤ length s.scratch.buffer.items
  pub first : get_or s.scratch.buffer.items 0 0 < 2 * s.config.vars
  pub second : get_or s.scratch.buffer.items 1 0 < 2 * s.config.vars

-- with k as the clauses
abbrev pub with_clauses : State → Clauses → State
with_clauses s k =
    record { config = s.config; trail = s.trail; scratch = s.scratch; watches = s.watches; clauses = k; finals = s.finals; qhead = s.qhead; ok = s.ok }

-- the buffer's literals are pushed, and then stored
abbrev pub added_in : State → State
added_in s = stored_in (with_clauses s (put_pushed s.clauses s.scratch.buffer.items))

pub record Added (s s' : State) : Type 0 where
  pub is : s' ≡ added_in s
  pub state : state_at s' ≡ model.with_store (state_at s) (attach_clause (state_at s).store s.scratch.buffer.items)
  pub sized : Sized s'
  pub fresh : Fresh s'.clauses s'.watches

-- a clause attached keeps its nodes apart
attached_chains : (c p q m : ℕ) (w : Watches) → Under (2 * c) w.lists → neg p < length w.lists → neg q < length w.lists → 2 * c + 1 < m → Chains m w.lists → Chains m (attached c p q w).lists
unfolding attached appended
attached_chains c p q m w u hp hq h k =
    chains-append (appended (neg p) (2 * c) q w).lists (neg q) (2 * c + 1) (rw length-set hq) m h (second_free c p q w u hp)
    (chains-append w.lists (neg p) (2 * c) hp m (omega arith) (first_free c p q w u) k)

module _ (s : State) (p : Storable s) where
  pub storing_in : Storing s.clauses s.scratch.buffer
  storing_in = record { none = p.none; literals = omega (arith, p.literals, p.sized.literals) }

  low : (x : ℕ) → x < 2 * s.config.vars → neg x < length s.watches.lists
  low x h = rw p.sized.lists (neg_range x s.config.vars h)

  pub pushed_storable : fresh.Storable (put_pushed s.clauses s.scratch.buffer.items) s.watches
  pushed_storable =
      record {
        fresh = record { under = p.fresh.under };
        room = omega (arith, p.room, p.sized.clauses);
        nodes = omega (arith, p.sized.clauses, p.sized.blockers);
        two = p.two;
        first = low (get_or s.scratch.buffer.items 0 0) p.first;
        second = low (get_or s.scratch.buffer.items 1 0) p.second;
      }

  pub added : {s' : State} → Stored (with_clauses s (put_pushed s.clauses s.scratch.buffer.items)) s' → Added s s'
  added {s'} q =
      let l = s.scratch.buffer.items in
      let c = length s.clauses.clauses in
      let sizes = attached_sizes c (get_or l 0 0) (get_or l 1 0) s.watches in
      let f : Sized (added_in s) =
      record {
        some = p.sized.some;
        vars = p.sized.vars;
        room = p.sized.room;
        lit_room = p.sized.lit_room;
        values = p.sized.values;
        marks = p.sized.marks;
        buffer = p.sized.buffer;
        stack = p.sized.stack;
        notes = p.sized.notes;
        lists = sizes.lists ∙ p.sized.lists;
        blockers = sizes.blockers ∙ p.sized.blockers;
        chains =
            attached_chains c (get_or l 0 0) (get_or l 1 0) (2 * s.config.room) s.watches p.fresh.under (low (get_or l 0 0) p.first) (low (get_or l 1 0) p.second) (omega (arith, p.room)) p.sized.chains;
        clauses = p.sized.clauses;
        literals = p.sized.literals;
        flags = p.sized.flags;
        members = p.sized.members;
      }
      in
      record {
        is = q.is;
        state =
            ap (λ (x : State). state_at x) q.is ∙ ap (λ (t : model.Store). model.with_store (state_at s) t) (ap (λ (x : State). (state_at x).store) (sym q.is) ∙ q.store);
        sized = subst Sized (sym q.is) f;
        fresh = q.fresh;
      }
