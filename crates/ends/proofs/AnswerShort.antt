-- The out cells of a solve, by the final clause's length.
use Rattle.std.specs.Prelude.{List, ℕ, ◌+◌, ◌*◌, ◌≤◌, ◌<◌}
use Rattle.std.proofs.Common.{arith}
use Rattle.std.proofs.Math.ListN.{length}
use Rattle.model.specs.Limits as Limits
use Rattle.model.specs.Script.{Config}
use Rattle.model.specs.State.{Solver}
use Rattle.model.specs.Search.{Searched, Turn, cells, answer_of, solve}
use Rattle.lawbase.specs.Basics.{Every}
use Rattle.ends.specs.Comes.{Comes, conflict, decision, refuted, full, stopped, completed, falsified}
use Rattle.ends.specs.Turns.{Then}
use Rattle.ends.specs.Rounds.{Final}
use Rattle.ends.specs.Bounds.{Limited}
use Rattle.ends.specs.Answer.{Idle}
use Rattle.ends.proofs.Answer.{final_short, solve_cases, idle_found}

-- ---- how long the answer is

answer_short : {cfg : Config} {ps : List ℕ} {budget nof c b : ℕ} {y : Solver} {t : Turn} → Comes cfg ps budget nof c b y t
    → Then (λ _ _ _. Unit {0}) (λ r. length (answer_of r) ≤ cfg.variables + Limits.solve_besides) t
unfolding answer_of cells
answer_short (conflict confl s s' k l e) = tt
answer_short (decision s s' g e d) = tt
answer_short (refuted confl s k r z) = omega arith
answer_short (full confl s k r z f) = omega arith
answer_short (stopped s r o t) = omega arith
answer_short (completed s s' g r d m) = omega (arith, d.searching.formed.vars.values)
answer_short (falsified s s' final g r d m) = omega (arith, final_short d)

-- ---- a solve

module _ {cfg : Config} {ps : List ℕ} {budget : ℕ} {x₀ : Solver} {r : Searched} (f : Final cfg ps budget x₀ r) where
  pub final_answer : length (answer_of r) ≤ cfg.variables + Limits.solve_besides
  final_answer = answer_short f.last.comes

module _ {cfg : Config} (l : Limited cfg) (x : Solver) (ps : List ℕ) (range : Every (λ p. p < 2 * cfg.variables) ps) (budget : ℕ) where
  pub solve_short : Idle cfg x.state → length (solve cfg x ps budget).answer ≤ cfg.variables + Limits.solve_besides
  unfolding cells
  solve_short h =
      solve_cases (λ r. length r.answer ≤ cfg.variables + Limits.solve_besides) cfg x ps budget (λ e. omega arith)
      (λ e. final_answer (idle_found l x ps range budget h e))
