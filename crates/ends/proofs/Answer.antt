-- The out cells of a solve, and the state that it leaves.
use Rattle.std.specs.Prelude.{◌≡◌, refl, Bool, true, false, List, [], ◌∷◌, ℕ, suc, ◌*◌, ◌≤◌, ◌<◌, get_or}
use Rattle.std.proofs.Common.{arith}
use Rattle.std.proofs.Math.ListN.{length}
use Rattle.model.specs.Lit.{neg, l_false}
use Rattle.model.specs.Script.{Config}
use Rattle.model.specs.State.{State, Solver, decision_level, with_ok, with_state}
use Rattle.model.specs.Trail.{cancel_until}
use Rattle.model.specs.Search.{FALSE, Searched, Turn, most_conflicts, cells, answer_of, still_ok, Solved, solve}
use Rattle.lawbase.specs.Basics.{Every}
use Rattle.assign.proofs.Back.{cancel_ok, cancel_level}
use Rattle.assign.proofs.Searching.{searching_start}
use Rattle.assign.specs.Decide.{Failed}
use Rattle.learning.proofs.Final.{final_law}
use Rattle.watching.specs.Watching.{Watching}
use Rattle.watching.proofs.MoreMoves.{cancel_watching}
use Rattle.watching.proofs.Moves.{conflict_returning, back_watching}
use Rattle.ends.proofs.Credit.{ongoing_cancel, credit_most}
use Rattle.ends.specs.Comes.{Comes, conflict, decision, refuted, full, stopped, completed, falsified}
use Rattle.ends.proofs.Comes.{advance_propagates}
use Rattle.ends.specs.Turns.{Then}
use Rattle.ends.specs.Rounds.{Final}
use Rattle.ends.proofs.Rounds.{solve_final}
use Rattle.ends.specs.Bounds.{Limited}
use Rattle.ends.proofs.Bounds.{clause-index}
use Rattle.ends.specs.Answer.{Idle, ready, closed, found_by}

-- ---- how long the answer is

pub final_short : {cfg : Config} {ps : List ℕ} {s s' : State} {final : List ℕ} → Failed cfg ps s s' final → length final ≤ suc cfg.variables
final_short {cfg} {ps} {s' = s'} f =
    rw f.clause
    (final_law cfg.variables s'.store s'.vars f.searching.formed.vars (neg (get_or ps (decision_level s'.vars) 0)) f.false_on).short

-- ---- the state between two records

module _ {cfg : Config} {s : State} (w : Watching cfg s) (phase : ℕ) where
  back_ready : Idle cfg (cancel_until phase s 0)
  back_ready = ready (cancel_watching w phase 0) (omega (arith, cancel_level phase s 0 w.formed.vars))

failed_idle : {cfg : Config} {s : State} → Watching cfg s → (final : List ℕ) → Idle cfg (cancel_until cfg.phase (still_ok (FALSE final) s) 0)
unfolding still_ok
failed_idle {cfg} {s} w [] = closed (cancel_ok cfg.phase (with_ok s false) 0)
failed_idle {cfg} w (l ∷ ls) = back_ready w cfg.phase

idle_after : {cfg : Config} {ps : List ℕ} {budget nof c b : ℕ} {y : Solver} {t : Turn} → Comes cfg ps budget nof c b y t
    → Then (λ _ _ _. Unit {0}) (λ r. Idle cfg (cancel_until cfg.phase (still_ok r.status r.solver.state) 0)) t
unfolding still_ok
idle_after (conflict confl s s' k l e) = tt
idle_after (decision s s' g e d) = tt
idle_after {cfg} (refuted confl s k r z) = closed (cancel_ok cfg.phase (with_ok s false) 0)
idle_after {cfg} (full confl s k r z f) =
    let low : 0 < decision_level s.vars = omega (arith, (advance_propagates {cfg = cfg} k.clashed.advance).level) in
    ready (back_watching (conflict_returning k.clashed.conflict) cfg.phase 0 low)
    (omega (arith, cancel_level cfg.phase s 0 k.clashed.conflict.falsified.formed.vars))
idle_after {cfg} (stopped s r o t) = back_ready (ongoing_cancel o cfg.phase 0).watching cfg.phase
idle_after {cfg} (completed s s' g r d m) = back_ready r.watching cfg.phase
idle_after {cfg} (falsified s s' final g r d m) = failed_idle r.watching final

-- ---- a solve

module _ {cfg : Config} {ps : List ℕ} {budget : ℕ} {x₀ : Solver} {r : Searched} (f : Final cfg ps budget x₀ r) where
  pub final_idle : Idle cfg (cancel_until cfg.phase (still_ok r.status r.solver.state) 0)
  final_idle = idle_after f.last.comes

-- the cases of a solve
pub solve_cases : (P : Solved → Type 0) (cfg : Config) (x : Solver) (ps : List ℕ) (budget : ℕ)
    → (x.state.ok ≡ false → P (record { solver = x; answer = cells l_false 0 [] }))
    → (x.state.ok ≡ true
    → P (record {
      solver =
          with_state (found_by cfg x ps budget).solver
          (cancel_until cfg.phase (still_ok (found_by cfg x ps budget).status (found_by cfg x ps budget).solver.state) 0);
      answer = answer_of (found_by cfg x ps budget);
    }))
    → P (solve cfg x ps budget)
unfolding solve
solve_cases P cfg x ps budget f g = go x.state.ok refl
  where
    go : (b : Bool) → x.state.ok ≡ b
        → P (elim b [
          | false ↦ record { solver = x; answer = cells l_false 0 [] }
          | true ↦
              record {
                solver =
                    with_state (found_by cfg x ps budget).solver
                    (cancel_until cfg.phase (still_ok (found_by cfg x ps budget).status (found_by cfg x ps budget).solver.state) 0);
                answer = answer_of (found_by cfg x ps budget);
              }
        ])
    go false e = f e
    go true e = g e

module _ {cfg : Config} (l : Limited cfg) (x : Solver) (ps : List ℕ) (range : Every (λ p. p < 2 * cfg.variables) ps) (budget : ℕ) where
  pub solve_found : Watching cfg x.state → decision_level x.state.vars ≡ 0 → Final cfg ps budget x (found_by cfg x ps budget)
  solve_found w z =
      solve_final cfg (clause-index l) l.least_unit ps range budget x (suc (most_conflicts cfg))
      (record { searching = searching_start w.formed ps z; watching = w }) z (omega (arith, credit_most cfg x.state))

  -- where the clauses may have a model, the search starts at level 0
  pub idle_found : Idle cfg x.state → x.state.ok ≡ true → Final cfg ps budget x (found_by cfg x ps budget)
  idle_found (closed e) t = let z : ◌≡◌ {A = ℕ} 0 1 = cc in absurd (omega arith)
  idle_found (ready w z) t = solve_found w z

  pub solve_idle : Idle cfg x.state → Idle cfg (solve cfg x ps budget).solver.state
  solve_idle h = solve_cases (λ r. Idle cfg r.solver.state) cfg x ps budget (λ e. h) (λ e. final_idle (idle_found h e))
