-- A walk's step in the definition's watch lists: the list that is walked is what has stayed, the watch at the cursor, and what is left.
use Rattle.std.specs.Prelude.{ℕ, suc, ◌/◌, ◌<◌, ◌≡◌, ◌≢◌, List, [], ◌∷◌, ◌++◌, length, get_or, set, take, drop}
use Rattle.std.proofs.Common.{ap, ◌∙◌, drop-cons}
use Rattle.std.proofs.lemmas.List.{set_split}
use Rattle.model.specs.State.{Watch}
use Rattle.model.specs.Store.{push_watch}
use Rattle.watch.specs.View.{Watches, list_of, Chains, without, blocked, moved}
use Rattle.watch.specs.Laws.{node_below}
use Rattle.watch.specs.Meaning.{as_watch, as_watches, as_count, as_at, as_moved, as_blocked}

-- the node at place i of list l
module _ (s : Watches) (k : Chains (length s.blockers) s.lists) (l : ℕ) (hl : l < length s.lists) (i : ℕ) (hi : i < length (list_of s l)) where
  abbrev x : ℕ
  x = get_or (list_of s l) i 0

  abbrev ws : List Watch
  ws = get_or (as_watches s) l []

  pub left_watches : i < length (get_or (as_watches s) l [])
  left_watches = rw (as_count s l) hi

  pub node_small : get_or (list_of s l) i 0 < length s.blockers
  node_small = node_below (length s.blockers) s.lists k.under l i hl hi

  -- its watch is the first that is left
  pub watch_left : drop i (get_or (as_watches s) l []) ≡ as_watch s.blockers (get_or (list_of s l) i 0) ∷ drop (suc i) (get_or (as_watches s) l [])
  watch_left =
      let z = as_watch s.blockers x in
      drop-cons ws i z left_watches ∙ ap (λ (v : Watch). v ∷ drop (suc i) ws) (as_at s l i z hi)

  -- it gets the blocker b
  pub watch_blocked : (b : ℕ)
      → as_watches (blocked (get_or (list_of s l) i 0) b s) ≡ set (as_watches s) l (take i (get_or (as_watches s) l []) ++ (record { clause = get_or (list_of s l) i 0 / 2; blocker = b } ∷ drop (suc i) (get_or (as_watches s) l [])))
  watch_blocked b = as_blocked l i s k.apart hl hi node_small b ∙ ap (set (as_watches s) l) (set_split ws i _ left_watches)

  -- it goes to list m with the blocker b
  pub watch_gone : (m b : ℕ) → m < length s.lists → l ≢ m
      → as_watches (moved l i m b s) ≡ push_watch (set (as_watches s) l (without i (get_or (as_watches s) l []))) m (record { clause = get_or (list_of s l) i 0 / 2; blocker = b })
  watch_gone m b hm ne = as_moved l i s k.apart hl hi node_small m b hm ne
