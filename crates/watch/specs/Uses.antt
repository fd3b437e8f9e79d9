-- Which nodes are in use: those of the clauses below u, so that the nodes of a new clause are in no list.
use Rattle.std.specs.Prelude.{ℕ, zero, suc, ◌+◌, ◌*◌, ◌/◌, ◌<◌, ◌≡◌, refl, ◌≢◌, List, get_or}
use native.Mathlib.Omega.{arith}
use Rattle.std.proofs.Common.{◌∙◌}
use Rattle.std.proofs.Math.ListN.{length, length-set}
use Rattle.model.specs.Lit.{neg}
use Rattle.model.specs.State.{Store}
use Rattle.model.specs.Store.{push_watch, attach_clause}
use Rattle.watch.specs.View.{Watches, list_of, Apart, Under, Free, appended, attached, unlinked, moved, blocked, emptied}
use Rattle.watch.specs.Laws.{node_below, fresh, under_more, under_append, free_append, under_without, free_without}
use Rattle.watch.specs.Meaning.{as_watches, as_appended, moved_is}

pub blocked_under : (u x b : ℕ) (s : Watches) → Under u s.lists → Under u (blocked x b s).lists
unfolding blocked
blocked_under u x b s k = k

pub emptied_under : (u n : ℕ) (s : Watches) → Under u (emptied n s).lists
unfolding emptied
emptied_under u zero s = refl
emptied_under u (suc n) s = omega (arith, emptied_under u n s)

module _ (l x b : ℕ) (s : Watches) (hl : l < length s.lists) where
  pub appended_under : (u : ℕ) → x < u → Under u s.lists → Under u (appended l x b s).lists
  unfolding appended
  appended_under u h k = under_append s.lists l x hl u h k

  pub appended_free : (y : ℕ) → y ≢ x → Free y s.lists → Free y (appended l x b s).lists
  unfolding appended
  appended_free y n k = free_append s.lists l x hl y n k

module _ (l i : ℕ) (s : Watches) (hl : l < length s.lists) (hi : i < length (list_of s l)) where
  pub unlinked_under : (u : ℕ) → Under u s.lists → Under u (unlinked l i s).lists
  unfolding unlinked
  unlinked_under u k = under_without s.lists l i hl hi u k

  -- the node that left is in no list
  pub unlinked_free : Apart s.lists → Free (get_or (list_of s l) i 0) (unlinked l i s).lists
  unfolding unlinked
  unlinked_free k = free_without s.lists l i hl hi k

  pub moved_under : (u m b : ℕ) → m < length s.lists → l ≢ m → Under u s.lists → Under u (moved l i m b s).lists
  moved_under u m b hm n k =
      let hx = node_below u s.lists k l i hl hi in
      rw (moved_is l i m b s n) (appended_under m (get_or (list_of s l) i 0) b (unlinked l i s) (unfold unlinked in (rw length-set hm)) u hx (unlinked_under u k))

-- ---- a new clause

module _ (c p q : ℕ) (s : Watches) (k : Under (2 * c) s.lists) where
  pub first_free : Free (2 * c) s.lists
  first_free = fresh (2 * c) (2 * c) s.lists k (omega arith)

  module _ (hp : neg p < length s.lists) where
    pub second_free : Free (2 * c + 1) (appended (neg p) (2 * c) q s).lists
    second_free = appended_free (neg p) (2 * c) q s hp (2 * c + 1) (omega arith) (fresh (2 * c) (2 * c + 1) s.lists k (omega arith))

    module _ (hq : neg q < length s.lists) where
      still : neg q < length (appended (neg p) (2 * c) q s).lists
      unfolding appended
      still = rw length-set hq

      pub attached_under : Under (2 * (c + 1)) (attached c p q s).lists
      unfolding attached
      attached_under =
          appended_under (neg q) (2 * c + 1) p (appended (neg p) (2 * c) q s) still (2 * (c + 1)) (omega arith)
          (appended_under (neg p) (2 * c) q s hp (2 * (c + 1)) (omega arith) (under_more (2 * c) (2 * (c + 1)) s.lists (omega arith) k))

      -- the watches of the definition's `attach_clause`
      pub as_attached : 2 * c + 1 < length s.blockers
          → as_watches (attached c p q s) ≡ push_watch (push_watch (as_watches s) (neg p) (record { clause = c; blocker = q })) (neg q) (record { clause = c; blocker = p })
      unfolding attached
      as_attached h =
          let s1 = appended (neg p) (2 * c) q s in
          let one : (2 * c) / 2 ≡ c = omega arith in
          let two : (2 * c + 1) / 2 ≡ c = omega arith in
          let size : 2 * c + 1 < length s1.blockers = unfold appended in (rw length-set h) in
          as_appended (neg q) (2 * c + 1) p s1 still second_free size
          ∙ rw (two, as_appended (neg p) (2 * c) q s hp first_free (omega arith), one)

pub as_attach_clause : (st : Store) (cl : List ℕ) → (attach_clause st cl).watches
    ≡ push_watch (push_watch st.watches (neg (get_or cl 0 0)) (record { clause = length st.clauses; blocker = get_or cl 1 0 })) (neg (get_or cl 1 0)) (record { clause = length st.clauses; blocker = get_or cl 0 0 })
unfolding attach_clause
as_attach_clause st cl = refl
