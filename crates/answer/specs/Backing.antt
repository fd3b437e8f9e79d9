-- The state that a solve leaves: closed for good after FALSE with an empty final clause, and back at level 0.
use Rattle.std.specs.Prelude.{ℕ, ◌≡◌, refl, ◌≢◌, ◌⊎◌, false, List, [], ◌∷◌, length}
use Rattle.std.proofs.Common.{arith, sym, subst, inl, inr}
use Rattle.model.specs.State as ms
use Rattle.model.specs.Search.{FALSE, still_ok}
use Rattle.state.specs.declared.State.{State}
use Rattle.state.specs.Still.{state_at}
use Rattle.decide.specs.Deciding.{Ended as Refuted}
use Rattle.search.specs.declared.Status.{Status}
use Rattle.search.specs.Held.{status_of, Left, still_refuted}

-- ---- FALSE with an empty final clause

-- the clauses are known to have no model
abbrev pub closed : State → State
closed s =
    record { config = s.config; trail = s.trail; scratch = s.scratch; watches = s.watches; clauses = s.clauses; finals = s.finals; qhead = s.qhead; ok = false }

-- s' is s, closed for good if the status asks for it; nothing else of it changes
pub record StillOk (t : Status) (s s' : State) : Type 0 where
  pub state : state_at s' ≡ still_ok (status_of t s) (state_at s)
  pub only : (s' ≡ s) ⊎ (s' ≡ closed s)
  pub left : Left t s'
  pub refuted : Refuted s'
  pub config : s'.config ≡ s.config

ok_final : (s : ms.State) (ls : List ℕ) → length ls ≢ 0 → s ≡ still_ok (FALSE ls) s
unfolding still_ok
ok_final s [] n = absurd (n refl)
ok_final s (l ∷ ls) n = refl

ok_empty : (s : ms.State) (ls : List ℕ) → length ls ≡ 0 → ms.with_ok s false ≡ still_ok (FALSE ls) s
unfolding still_ok
ok_empty s [] e = refl
ok_empty s (l ∷ ls) e = absurd (omega (arith, e))

module _ {s : State} where
  -- any other end
  pub ok_kept : (t : Status) → Left t s → (t ≢ Status.False) ⊎ (length s.finals.items ≢ 0) → StillOk t s s
  unfolding still_ok
  ok_kept Status.True l e = record { state = refl; only = inl refl; left = l; refuted = still_refuted l; config = refl }
  ok_kept Status.False l (inl d) = absurd (d refl)
  ok_kept Status.False l (inr n) = record { state = ok_final (state_at s) s.finals.items n; only = inl refl; left = l; refuted = l; config = refl }
  ok_kept Status.Undef l e = record { state = refl; only = inl refl; left = l; refuted = still_refuted l; config = refl }
  ok_kept Status.NoStorage l e = record { state = refl; only = inl refl; left = l; refuted = still_refuted l; config = refl }

  refuted_closed : Refuted s → Refuted (closed s)
  refuted_closed k =
      let f = k.formed in
      record {
        sized = k.sized;
        marks = k.marks;
        pushed = k.pushed;
        nodes = k.nodes;
        formed = record { store = f.store; vars = f.vars; phases = f.phases; signs = f.signs; qhead = f.qhead };
      }

  closes : Refuted s → length s.finals.items ≡ 0 → StillOk Status.False s (closed s)
  closes k z =
      let r = refuted_closed k in
      record { state = ok_empty (state_at s) s.finals.items z; only = inr refl; left = r; refuted = r; config = refl }

  pub ok_closed : (t : Status) → Left t s → t ≡ Status.False → length s.finals.items ≡ 0
      → StillOk t s (record { config = s.config; trail = s.trail; scratch = s.scratch; watches = s.watches; clauses = s.clauses; finals = s.finals; qhead = s.qhead; ok = false })
  ok_closed t l e z = subst (λ (u : Status). StillOk u s (closed s)) (sym e) (closes (subst (λ (u : Status). Left u s) e l) z)
