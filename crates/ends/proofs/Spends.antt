-- The conflicts of a whole run: each but the last of a solve takes some credit, and no record gives any back.
use Rattle.std.specs.Prelude.{◌≡◌, refl, Bool, true, false}
use Rattle.std.proofs.Common.{ap}
use mathlib.Core.List.Memᴰ.{head as here}
use mathlib.Core.List.{List, [], ◌∷◌}
use Prim.Native.Nat.{ℕ, suc, ◌+◌, ◌*◌, ◌≤◌, ◌<◌}
use native.Mathlib.Omega.{arith}
use Rattle.std.proofs.Math.ListN.{get_or}
use Rattle.model.specs.Lit.{no_reason, l_true, l_false, l_undef}
use Rattle.model.specs.Script.{Config, Record, clause, solve}
use Rattle.model.specs.State.{State, Solver, with_ok, initial}
use Rattle.model.specs.Trail.{cancel_until}
use Rattle.model.specs.Intake.{Taken, add_clause}
use Rattle.model.specs.Search.{Status, TRUE, FALSE, UNDEF, NO_STORAGE, Searched, Turn, most_conflicts, cause_budget, cause_no_storage, cells, answer_of, still_ok}
use Rattle.model.specs.Search as Search
use Rattle.model.specs.Run.{step}
use Rattle.lawbase.specs.Basics.{Every, shrink}
use Rattle.lawbase.specs.Range.{Ranged}
use Rattle.lawbase.specs.WellFormed.{WellFormed}
use Rattle.assign.proofs.Searching.{ok_formed}
use Rattle.watching.proofs.Attach.{attach_length}
use Rattle.watching.specs.Intake.{Intaken, closed, dropped_clause, emptied, unit_left, stored_clause, no_storage}
use Rattle.watching.proofs.Intake.{intaken}
use Rattle.ends.proofs.Fixed.{fixed_enqueue}
use Rattle.ends.specs.Credit.{credit}
use Rattle.ends.proofs.Credit.{ongoing_cancel, credit_most, credit_kept, credit_cancel}
use Rattle.ends.specs.Comes.{Comes, conflict, decision, refuted, full, stopped, completed, falsified}
use Rattle.ends.proofs.Comes.{advance_propagates}
use Rattle.ends.specs.Turns.{Then}
use Rattle.ends.specs.Rounds.{Final}
use Rattle.ends.specs.Bounds.{Limited}
use Rattle.ends.proofs.Bounds.{conflicts_had, conflicts_spent}
use Rattle.ends.specs.Answer.{Idle, found_by}
use Rattle.ends.proofs.Answer.{solve_cases, idle_found}
use Rattle.ends.proofs.Out.{step_idle, initial_idle}
use Rattle.ends.specs.Spends.{worth, told_conflicts, solve_count, run_conflicts, solves}

worth-credit : (cfg : Config) (s : State) → worth cfg s ≤ credit cfg s
unfolding worth
worth-credit cfg s = go s.ok
  where
    go : (b : Bool) → (elim b [ true ↦ credit cfg s | false ↦ 0 ]) ≤ credit cfg s
    go true = omega arith
    go false = omega arith

worth_open : (cfg : Config) (s : State) → s.ok ≡ true → worth cfg s ≡ credit cfg s
unfolding worth
worth_open cfg s e = ap (λ (b : Bool). elim b as (λ _. ℕ) [ true ↦ credit cfg s | false ↦ 0 ]) e

worth-closed : (cfg : Config) (s : State) → s.ok ≡ false → worth cfg s ≡ 0
unfolding worth
worth-closed cfg s e = ap (λ (b : Bool). elim b as (λ _. ℕ) [ true ↦ credit cfg s | false ↦ 0 ]) e

-- ---- a clause

clause-worth : {cfg : Config} {s : State} {c : List ℕ} (t : Taken) → Intaken cfg s c t → worth cfg t.state ≤ worth cfg s
clause-worth t (closed e) = omega arith
clause-worth t (dropped_clause e x i w) = omega arith
clause-worth {cfg} {s} t (emptied e r) = omega (arith, worth-closed cfg (with_ok s false) refl)
clause-worth {cfg} {s} t (unit_left e l r) =
    omega (
      arith,
      worth-credit cfg t.state,
      worth_open cfg s e,
      credit_kept cfg s t.state (omega arith) (fixed_enqueue s.vars l no_reason),
    )
clause-worth {cfg} {s} t (stored_clause e a b more r room) =
    omega (
      arith,
      worth-credit cfg t.state,
      worth_open cfg s e,
      credit_kept cfg s t.state (omega (arith, attach_length s.store (a ∷ b ∷ more))) (omega arith),
    )
clause-worth t (no_storage e a b more r room) = omega arith

-- ---- a solve

still_credit : {cfg : Config} (status : Status) {s : State} → WellFormed cfg s → credit cfg (cancel_until cfg.phase (still_ok status s) 0) ≡ credit cfg s
unfolding still_ok credit
still_credit {cfg} TRUE w = credit_cancel w cfg.phase 0
still_credit {cfg} (FALSE []) w = credit_cancel (ok_formed w false) cfg.phase 0
still_credit {cfg} (FALSE (l ∷ ls)) w = credit_cancel w cfg.phase 0
still_credit {cfg} UNDEF w = credit_cancel w cfg.phase 0
still_credit {cfg} NO_STORAGE w = credit_cancel w cfg.phase 0

-- a turn that ends a search gives no credit back
record Kept (cfg : Config) (y : Solver) (r : Searched) : Type 0 where
  formed : WellFormed cfg r.solver.state
  kept : credit cfg r.solver.state ≤ credit cfg y.state

ends_kept : {cfg : Config} {ps : List ℕ} {budget nof c b : ℕ} {y : Solver} {t : Turn} → Comes cfg ps budget nof c b y t
    → Then (λ _ _ _. Unit {0}) (Kept cfg y) t
ends_kept (conflict confl s s' k l e) = tt
ends_kept (decision s s' g e d) = tt
ends_kept {cfg} (refuted confl s k r z) = record { formed = r.formed; kept = (advance_propagates {cfg = cfg} k.clashed.advance).kept }
ends_kept {cfg} (full confl s k r z f) = record { formed = r.formed; kept = (advance_propagates {cfg = cfg} k.clashed.advance).kept }
ends_kept {cfg} (stopped s r o t) =
    record {
      formed = (ongoing_cancel o cfg.phase 0).watching.formed;
      kept = omega (arith, credit_cancel o.watching.formed cfg.phase 0, (advance_propagates {cfg = cfg} r.rested.advance).kept);
    }
ends_kept (completed s s' g r d m) = record { formed = d.searching.formed; kept = m }
ends_kept (falsified s s' final g r d m) = record { formed = d.searching.formed; kept = m }

answer_conflicts : (r : Searched) → get_or (answer_of r) 1 0 ≡ r.conflicts
unfolding answer_of cells
answer_conflicts r = go r.status
  where
    go : (s : Status)
        → get_or
        (elim s [
          | TRUE ↦ cells l_true r.conflicts r.solver.state.vars.values
          | FALSE final ↦ cells l_false r.conflicts final
          | UNDEF ↦ cells l_undef r.conflicts (cause_budget ∷ [])
          | NO_STORAGE ↦ cells l_undef r.conflicts (cause_no_storage ∷ [])
        ]) 1 0
        ≡ r.conflicts
    go TRUE = refl
    go (FALSE final) = refl
    go UNDEF = refl
    go NO_STORAGE = refl

module _ {cfg : Config} {ps : List ℕ} {budget : ℕ} {x₀ : Solver} {r : Searched} (f : Final cfg ps budget x₀ r) where
  pub final_spends :
      get_or (answer_of r) 1 0 + credit cfg (cancel_until cfg.phase (still_ok r.status r.solver.state) 0) ≤ suc (credit cfg x₀.state)
  final_spends =
      let k = ends_kept f.last.comes in
      omega (arith, answer_conflicts r, still_credit r.status k.formed, k.kept, conflicts_had f, conflicts_spent f)

module _ {cfg : Config} (l : Limited cfg) (x : Solver) (ps : List ℕ) (range : Every (λ p. p < 2 * cfg.variables) ps) (budget : ℕ) where
  pub solve_spends : Idle cfg x.state
      → get_or (Search.solve cfg x ps budget).answer 1 0 + worth cfg (Search.solve cfg x ps budget).solver.state ≤ suc (worth cfg x.state)
  unfolding cells
  solve_spends h =
      solve_cases (λ r. get_or r.answer 1 0 + worth cfg r.solver.state ≤ suc (worth cfg x.state)) cfg x ps budget
      (λ e. omega arith)
      (λ e.
      let r = found_by cfg x ps budget in
      omega (
        arith,
        final_spends (idle_found l x ps range budget h e),
        worth_open cfg x.state e,
        worth-credit cfg (cancel_until cfg.phase (still_ok r.status r.solver.state) 0),
      ))

-- ---- a record

module _ {cfg : Config} (l : Limited cfg) where
  pub step_spends : (r : Record) (x : Solver) → Ranged cfg.variables r → Idle cfg x.state
      → told_conflicts r (step cfg r x).answer + worth cfg (step cfg r x).solver.state ≤ worth cfg x.state + solve_count r
  unfolding step told_conflicts solve_count
  step_spends (clause c) x f h =
      omega (arith, clause-worth (add_clause cfg x.state c) (intaken cfg x.state c (omega (arith, l.variables)) f))
  step_spends (solve ps budget) x f h = omega (arith, solve_spends l x ps f budget h)

-- ---- a run

module _ {cfg : Config} (l : Limited cfg) where
  pub answers_spend : (rs : List Record) (x : Solver) → Every (Ranged cfg.variables) rs → Idle cfg x.state
      → run_conflicts cfg rs x ≤ worth cfg x.state + solves rs
  unfolding run_conflicts solves
  answers_spend [] x f h = omega arith
  answers_spend (r ∷ rs) x f h =
      let g = f r (here refl) in
      omega (arith, answers_spend rs (step cfg r x).solver (shrink f) (step_idle l r x g h), step_spends l r x g h)

  -- the clauses, the variables, and one for each solve
  pub run_spends : (rs : List Record) → Every (Ranged cfg.variables) rs
      → run_conflicts cfg rs (initial cfg.variables) ≤ cfg.max_clauses + cfg.variables + solves rs
  unfolding most_conflicts
  run_spends rs f =
      let x = initial cfg.variables in
      omega (arith, answers_spend rs x f (initial_idle l), worth-credit cfg x.state, credit_most cfg x.state)
