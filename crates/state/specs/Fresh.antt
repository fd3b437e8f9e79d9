-- The nodes in the watch lists are those of stored clauses: so a new clause's nodes are in no list, and it can be attached.
use Rattle.std.specs.Prelude.{ℕ, ◌*◌, ◌≤◌, ◌<◌, ◌≡◌, refl}
use Rattle.std.proofs.Common.{arith, sym, subst, ◌∙◌}
use mathlib.Core.List.{[], ◌∷◌}
use Rattle.std.proofs.Math.ListN.{length, get_or, length-append}
use Rattle.std.proofs.Math.Seq.{get_or_at}
use Rattle.model.specs.Lit.{neg}
use Rattle.model.specs.State.{Watch, Store}
use Rattle.model.specs.Store.{attach_clause}
use Rattle.store.specs.View.{Clauses, clause_of, closed}
use Rattle.watch.specs.View.{Watches, list_of, Under, attached}
use Rattle.watch.specs.Laws.{node_below}
use Rattle.watch.specs.Meaning.{as_watches, under_clauses}
use Rattle.watch.specs.Uses.{attached_under, as_attached}
use Rattle.state.specs.declared.State.{State}
use Rattle.state.specs.Still.{state_at}

pub record Fresh (k : Clauses) (w : Watches) : Type 0 where
  pub under : Under (2 * length k.clauses) w.lists

-- as the definition's watches tell it
pub fresh_watches : (k : Clauses) (w : Watches) (e : Watch) → ((l i : ℕ) → l < length (as_watches w) → i < length (get_or (as_watches w) l []) → (get_or (get_or (as_watches w) l []) i e).clause < length k.clauses)
    → Fresh k w
fresh_watches k w e g = record { under = under_clauses (length k.clauses) w e g }

-- a node of a list is of a stored clause
pub node_stored : (k : Clauses) (w : Watches) → Fresh k w → (l i : ℕ) → l < length w.lists → i < length (list_of w l) → get_or (list_of w l) i 0 < 2 * length k.clauses
node_stored k w f l i hl hi = node_below (2 * length k.clauses) w.lists f.under l i hl hi

-- the literals pushed can become the last clause, and its first two literals have lists
pub record Storable (k : Clauses) (w : Watches) : Type 0 where
  pub fresh : Fresh k w
  pub room : length k.clauses < k.room
  pub nodes : 2 * k.room ≤ length w.blockers
  pub two : 2 ≤ length k.pushed
  pub first : neg (get_or k.pushed 0 0) < length w.lists
  pub second : neg (get_or k.pushed 1 0) < length w.lists

-- the watches with clause c attached, whose first two literals are those pushed
abbrev pub attached_in : Clauses → Watches → Watches
attached_in k w = attached (length k.clauses) (get_or k.pushed 0 0) (get_or k.pushed 1 0) w

-- what becomes of the state s
abbrev pub stored_in : State → State
stored_in s = record { config = s.config; trail = s.trail; scratch = s.scratch; watches = attached_in s.clauses s.watches; clauses = closed s.clauses; finals = s.finals; qhead = s.qhead; ok = s.ok }

pub record Stored (s s' : State) : Type 0 where
  pub is : s' ≡ stored_in s
  pub store : (state_at s').store ≡ attach_clause (state_at s).store s.clauses.pushed
  pub fresh : Fresh s'.clauses s'.watches

module _ (k : Clauses) (w : Watches) (s : Storable k w) where
  -- what `attach` finds of the clause just closed
  pub closed_last : clause_of (closed k) (length k.clauses) ≡ k.pushed
  closed_last = get_or_at k.clauses k.pushed [] [] (length k.clauses) refl

  -- the definition's `attach_clause`
  pub attach_is : ◌≡◌ {A = Store} (record { clauses = (closed k).clauses; watches = as_watches (attached_in k w) }) (attach_clause (record { clauses = k.clauses; watches = as_watches w }) k.pushed)
  unfolding attach_clause
  attach_is = rw (as_attached (length k.clauses) (get_or k.pushed 0 0) (get_or k.pushed 1 0) w s.fresh.under s.first s.second (omega (arith, s.room, s.nodes)))

  pub fresh_attached : Fresh (closed k) (attached_in k w)
  fresh_attached =
      record {
        under =
            subst (λ (n : ℕ). Under (2 * n) (attached_in k w).lists) (sym (length-append k.clauses (k.pushed ∷ [])) ∙ omega arith)
            (attached_under (length k.clauses) (get_or k.pushed 0 0) (get_or k.pushed 1 0) w s.fresh.under s.first s.second);
      }
