-- The cases of `search` after a propagation.
use Rattle.std.specs.Prelude.{◌≡◌, ◌⊎◌, Bool, ◌||◌, List, [], eqb}
use Rattle.std.proofs.Math.Path.{refl}
use Rattle.std.proofs.Common.{inl, inr, arith, leb-true, leb-false, eqb-true}
use Rattle.std.proofs.Math.Bool.{true, false}
use Rattle.std.specs.Prelude.{Option, None as none, Some as some}
use Prim.Native.Nat.{ℕ, suc, ◌≤◌, ◌<◌}
use Rattle.std.proofs.Math.Dec.{leb}
use Rattle.std.proofs.lemmas.Bool.{eqb-false}
use Rattle.model.specs.Script.{Config}
use Rattle.model.specs.State.{State, Solver, decision_level, with_state, with_activity}
use Rattle.model.specs.Trail.{cancel_until}
use Rattle.model.specs.Activity.{var_decay_activity}
use Rattle.model.specs.Analyze.{analyze}
use Rattle.model.specs.Decide.{Decision, decided, complete, failed, decide}
use Rattle.model.specs.Search.{TRUE, FALSE, UNDEF, NO_STORAGE, add_learnt_and_backtrack, Turn, goes_on, ends, on_conflict, on_no_conflict}

-- ---- after a conflict

module _ (P : Turn → Type 0) (cfg : Config) (a b : ℕ) (x : Solver) (confl : ℕ) where
  pub conflict_cases : (decision_level x.state.vars ≡ 0 → P (ends (record { solver = x; conflicts = suc a; status = FALSE [] })))
      → (0 < decision_level x.state.vars
      → add_learnt_and_backtrack cfg x.state (analyze cfg x confl).clause (analyze cfg x confl).level ≡ none
      → P (ends (record { solver = with_activity x (analyze cfg x confl).activity; conflicts = suc a; status = NO_STORAGE })))
      → (0 < decision_level x.state.vars → (s : State)
      → add_learnt_and_backtrack cfg x.state (analyze cfg x confl).clause (analyze cfg x confl).level ≡ some s
      → P (goes_on (suc a) (suc b) (record { state = s; activity = var_decay_activity (analyze cfg x confl).activity })))
      → P (on_conflict cfg a b x confl)
  unfolding on_conflict
  conflict_cases f g h = level (eqb (decision_level x.state.vars) 0) refl
    where
      back : 0 < decision_level x.state.vars → (o : Option State)
          → add_learnt_and_backtrack cfg x.state (analyze cfg x confl).clause (analyze cfg x confl).level ≡ o
          → P (elim o [
            | none ↦ ends (record { solver = with_activity x (analyze cfg x confl).activity; conflicts = suc a; status = NO_STORAGE })
            | some s ↦ goes_on (suc a) (suc b) (record { state = s; activity = var_decay_activity (analyze cfg x confl).activity })
          ])
      back d none e = g d e
      back d (some s) e = h d s e

      level : (t : Bool) → eqb (decision_level x.state.vars) 0 ≡ t
          → P (elim t [
            | true ↦ ends (record { solver = x; conflicts = suc a; status = FALSE [] })
            | false ↦
                elim (add_learnt_and_backtrack cfg x.state (analyze cfg x confl).clause (analyze cfg x confl).level) [
                  | none ↦ ends (record { solver = with_activity x (analyze cfg x confl).activity; conflicts = suc a; status = NO_STORAGE })
                  | some s ↦ goes_on (suc a) (suc b) (record { state = s; activity = var_decay_activity (analyze cfg x confl).activity })
                ]
          ])
      level true e = f (eqb-true (decision_level x.state.vars) 0 e)
      level false e =
          back (positive (decision_level x.state.vars) (eqb-false (decision_level x.state.vars) 0 e))
          (add_learnt_and_backtrack cfg x.state (analyze cfg x confl).clause (analyze cfg x confl).level) refl
        where
          positive : (k : ℕ) → (k ≡ 0 → ⊥) → 0 < k
          positive k n = omega (arith, n)

-- ---- after a propagation without conflict

or_cases : (a b : Bool) → (a || b) ≡ true → (a ≡ true) ⊎ (b ≡ true)
or_cases true b h = inl refl
or_cases false b h = inr h

or_left : (a b : Bool) → (a || b) ≡ false → a ≡ false
or_left true b h = h
or_left false b h = refl

or_right : (a b : Bool) → (a || b) ≡ false → b ≡ false
or_right true true h = h
or_right true false h = refl
or_right false b h = h

tests : (nof budget a b : ℕ) → (leb nof b || leb budget a) ≡ true → (nof ≤ b) ⊎ (budget ≤ a)
tests nof budget a b e = go (or_cases (leb nof b) (leb budget a) e)
  where
    go : (leb nof b ≡ true) ⊎ (leb budget a ≡ true) → (nof ≤ b) ⊎ (budget ≤ a)
    go (inl t) = inl (leb-true nof b t)
    go (inr t) = inr (leb-true budget a t)

module _ (P : Turn → Type 0) (cfg : Config) (ps : List ℕ) (budget nof a b : ℕ) (x : Solver) where
  abbrev pub on_decision : Decision → Turn
  on_decision d =
      elim d [
        | decided s ↦ goes_on a b (with_state x s)
        | complete s ↦ ends (record { solver = with_state x s; conflicts = a; status = TRUE })
        | failed s final ↦ ends (record { solver = with_state x s; conflicts = a; status = FALSE final })
      ]

  pub no_conflict_cases :
      ((nof ≤ b) ⊎ (budget ≤ a)
      → P (ends (record { solver = with_state x (cancel_until cfg.phase x.state 0); conflicts = a; status = UNDEF })))
      → (b < nof → a < budget → P (on_decision (decide x.activity.activities ps x.state)))
      → P (on_no_conflict cfg ps budget nof a b x)
  unfolding on_no_conflict
  no_conflict_cases f g = go (leb nof b || leb budget a) refl
    where
      go : (t : Bool) → (leb nof b || leb budget a) ≡ t
          → P (elim t [
            | true ↦ ends (record { solver = with_state x (cancel_until cfg.phase x.state 0); conflicts = a; status = UNDEF })
            | false ↦ on_decision (decide x.activity.activities ps x.state)
          ])
      go true e = f (tests nof budget a b e)
      go false e =
          g (leb-false nof b (or_left (leb nof b) (leb budget a) e)) (leb-false budget a (or_right (leb nof b) (leb budget a) e))
