-- What the steps of a tour keep, and how each step keeps it.
use Rattle.std.specs.Prelude.{ℕ, zero, suc, ◌+◌, ◌*◌, ◌≤◌, ◌<◌, ◌≡◌, refl, ◌≢◌, Bool, true, false, List, [], ◌∷◌, ◌++◌, length, get_or, set, take, drop}
use Rattle.std.proofs.Common.{arith, not-suc-le-zero, ap, ◌∙◌, length-set}
use Rattle.model.specs.Limits.{max_variables}
use Rattle.model.specs.Lit.{var, sign}
use Rattle.model.specs.State as model
use Rattle.model.specs.State.{initial_state, decision_level}
use Rattle.model.specs.Trail.{unchecked_enqueue, new_decision_level, vars_until, level_end}
use Rattle.model.specs.Final.{mem}
use Rattle.lawbase.specs.Basics.{neg_range}
use Rattle.assign.proofs.Cancel.{unset-length}
use Rattle.trail.specs.View.{Assignment, LitsOf, enqueued, next_level, until}
use Rattle.store.specs.View.{Clauses, put_pushed, lit_pushed, closed, discarded}
use Rattle.store.specs.Cells.{put_pushed_more}
use Rattle.watch.specs.View.{Watches, list_of, blocked, moved}
use Rattle.watch.specs.Sizes.{SameSizes, blocked_sizes, moved_sizes, attached_sizes}
use Rattle.watch.specs.Uses.{blocked_under, moved_under}
use Rattle.litset.specs.View.{Members, inserted, new_cell}
use Rattle.state.specs.declared.Config.{Config}
use Rattle.state.specs.declared.State.{State}
use Rattle.state.specs.Still.{Sized}
use Rattle.state.specs.Start.{Started}
use Rattle.state.specs.Fresh.{Fresh, Storable, stored_in, attached_in, fresh_attached}

-- the blocks that the steps use fit the configuration; the nodes in the lists are of stored clauses, and the literals of the trail of variables
pub record Live (s : State) : Type 0 where
  pub some : 1 ≤ s.config.vars
  pub vars : s.config.vars ≤ max_variables
  pub values : length s.trail.vars.values ≡ s.config.vars
  pub lists : length s.watches.lists ≡ 2 * s.config.vars
  pub nodes : 2 * s.clauses.room ≤ length s.watches.blockers
  pub flags : length s.finals.flag_cells ≡ 2 * s.config.vars
  pub members : length s.finals.item_cells ≡ s.config.vars + 1
  pub fresh : Fresh s.clauses s.watches
  pub lits : LitsOf s.config.vars s.trail.vars.trail

-- ---- literals on the trail

lits_none : (n : ℕ) (xs : List ℕ) → xs ≡ [] → LitsOf n xs
lits_none n xs e i g = absurd (not-suc-le-zero (rw e at g))

lits_more : (n p : ℕ) (xs : List ℕ) → LitsOf n xs → var p < n → LitsOf n (xs ++ (p ∷ []))
lits_more n p [] k g zero b = g
lits_more n p [] k g (suc i) b = let no_place : suc i ≤ 0 = omega arith in absurd (not-suc-le-zero no_place)
lits_more n p (x ∷ xs) k g zero b = k 0 (omega arith)
lits_more n p (x ∷ xs) k g (suc i) b = lits_more n p xs (λ j a. k (suc j) (omega arith)) g i (omega arith)

lits_fewer : (n m : ℕ) (xs : List ℕ) → LitsOf n xs → LitsOf n (take m xs)
lits_fewer n zero xs k i b = absurd (not-suc-le-zero b)
lits_fewer n (suc m) [] k i b = absurd (not-suc-le-zero b)
lits_fewer n (suc m) (x ∷ xs) k zero b = k 0 (omega arith)
lits_fewer n (suc m) (x ∷ xs) k (suc i) b = lits_fewer n m xs (λ j a. k (suc j) (omega arith)) i (omega arith)

chosen : (b : Bool) (xs ys : List ℕ) → length ys ≡ length xs → length {A = ℕ} (elim b [ true ↦ xs | false ↦ ys ]) ≡ length xs
chosen true xs ys e = refl
chosen false xs ys e = e

pub new_cell-length : (items : List ℕ) (l : ℕ) (cells : List ℕ) (i x : ℕ) → length (new_cell items l cells i x) ≡ length cells
unfolding new_cell
new_cell-length items l cells i x = chosen (mem l items) cells (set cells i x) (length-set cells i x)

-- blocks that are as large as the configuration asks are as large as the steps need
pub live_sized : {s : State} → Sized s → Fresh s.clauses s.watches → LitsOf s.config.vars s.trail.vars.trail → Live s
live_sized z f l =
    record {
      some = z.some;
      vars = z.vars;
      values = z.values;
      lists = z.lists;
      nodes = rw (z.clauses, z.blockers) (omega arith);
      flags = z.flags;
      members = z.members;
      fresh = f;
      lits = l;
    }

-- the state at the start has no clause and nothing on the trail
pub live_started : {g : Config} {w : List ℕ} {s : State} → Started g w s → Live s
unfolding initial_state
live_started {g} {w} {s} k =
    live_sized k.has.still.sized (record { under = k.has.still.idle.nodes })
    (lits_none s.config.vars s.trail.vars.trail (ap (λ (t : model.State). t.vars.trail) k.has.state))

-- three literals are pushed, after what was pushed before is given up
pub three_pushed : (c : Clauses) (p q r : ℕ) → lit_pushed (lit_pushed (lit_pushed (discarded c) p) q) r ≡ put_pushed c (p ∷ q ∷ r ∷ [])
three_pushed c p q r =
    ap (λ (k : Clauses). lit_pushed (lit_pushed k q) r) (put_pushed_more c [] p) ∙ ap (λ (k : Clauses). lit_pushed k r) (put_pushed_more c (p ∷ []) q) ∙ put_pushed_more c (p ∷ q ∷ []) r

-- ---- the steps

pub same_sizes : (w : Watches) → SameSizes w w
same_sizes w = record { lists = refl; blockers = refl }

module _ {s : State} (k : Live s) where
  -- other contents, in blocks of the same sizes
  live_of : (t : Assignment) (w : Watches) (c : Clauses) (f : Members) (q : ℕ) → length t.vars.values ≡ length s.trail.vars.values → LitsOf s.config.vars t.vars.trail
      → SameSizes s.watches w → c.room ≡ s.clauses.room → Fresh c w → length f.flag_cells ≡ length s.finals.flag_cells → length f.item_cells ≡ length s.finals.item_cells
      → Live (record s { trail = t; watches = w; clauses = c; finals = f; qhead = q })
  live_of t w c f q hv hl hw hc hf hg hi =
      record {
        some = k.some;
        vars = k.vars;
        values = hv ∙ k.values;
        lists = hw.lists ∙ k.lists;
        nodes = rw (hc, hw.blockers) k.nodes;
        flags = hg ∙ k.flags;
        members = hi ∙ k.members;
        fresh = hf;
        lits = hl;
      }

  -- ---- on the trail

  live_trail : (t : Assignment) (q : ℕ) → length t.vars.values ≡ length s.trail.vars.values → LitsOf s.config.vars t.vars.trail → Live (record s { trail = t; qhead = q })
  live_trail t q hv hl = live_of t s.watches s.clauses s.finals q hv hl (same_sizes s.watches) refl k.fresh refl refl

  pub live_level : Live (record s { trail = next_level s.trail })
  unfolding new_decision_level
  live_level = live_trail (next_level s.trail) s.qhead refl k.lits

  pub live_enqueued : (p from : ℕ) → var p < s.config.vars → Live (record s { trail = enqueued s.trail p from })
  unfolding unchecked_enqueue
  live_enqueued p from g =
      live_trail (enqueued s.trail p from) s.qhead (length-set s.trail.vars.values (var p) (sign p)) (lits_more s.config.vars p s.trail.vars.trail k.lits g)

  pub live_until : (phase level q : ℕ) → Live (record s { trail = until phase s.trail level; qhead = q })
  unfolding vars_until
  live_until phase level q =
      let at = level_end s.trail.vars level in
      live_trail (until phase s.trail level) q (unset-length s.trail.vars.values (drop at s.trail.vars.trail)) (lits_fewer s.config.vars at s.trail.vars.trail k.lits)

  -- ---- in the watch lists

  live_watches : (w : Watches) → SameSizes s.watches w → Fresh s.clauses w → Live (record s { watches = w })
  live_watches w hw hf = live_of s.trail w s.clauses s.finals s.qhead refl k.lits hw refl hf refl refl

  pub live_blocked : (x b : ℕ) → Live (record s { watches = blocked x b s.watches })
  live_blocked x b =
      live_watches (blocked x b s.watches) (blocked_sizes x b s.watches) (record { under = blocked_under (2 * length s.clauses.clauses) x b s.watches k.fresh.under })

  pub live_moved : (l i m b : ℕ) → l < 2 * s.config.vars → m < 2 * s.config.vars → l ≢ m → i < length (list_of s.watches l) → Live (record s { watches = moved l i m b s.watches })
  live_moved l i m b hl hm n hi =
      let f = moved_under l i s.watches (omega (arith, k.lists)) hi (2 * length s.clauses.clauses) m b (omega (arith, k.lists)) n k.fresh.under in
      live_watches (moved l i m b s.watches) (moved_sizes l i m b s.watches) (record { under = f })

  -- ---- in the final clause

  pub live_inserted : (l : ℕ) → Live (record s { finals = inserted s.finals l })
  live_inserted l =
      let f = s.finals in
      live_of s.trail s.watches s.clauses (inserted f l) s.qhead refl k.lits (same_sizes s.watches) refl k.fresh (new_cell-length f.items l f.flag_cells l 1)
      (new_cell-length f.items l f.item_cells (length f.items) l)

  -- ---- a clause of the literals ps

  module _ (ps : List ℕ) (room : length s.clauses.clauses < s.clauses.room) (two : 2 ≤ length ps) (hp : get_or ps 0 0 < 2 * s.config.vars) (hq : get_or ps 1 0 < 2 * s.config.vars) where
    pub storable : Storable (put_pushed s.clauses ps) s.watches
    storable =
        record {
          fresh = record { under = k.fresh.under };
          room = room;
          nodes = k.nodes;
          two = two;
          first = rw k.lists (neg_range (get_or ps 0 0) s.config.vars hp);
          second = rw k.lists (neg_range (get_or ps 1 0) s.config.vars hq);
        }

    pub live_stored : Live (stored_in (record s { clauses = put_pushed s.clauses ps }))
    live_stored =
        let c = put_pushed s.clauses ps in
        live_of s.trail (attached_in c s.watches) (closed c) s.finals s.qhead refl k.lits (attached_sizes (length s.clauses.clauses) (get_or ps 0 0) (get_or ps 1 0) s.watches) refl
        (fresh_attached c s.watches storable) refl refl
