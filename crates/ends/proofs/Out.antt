-- The out cells of a run are at most those that a script asks for.
use Rattle.std.specs.Prelude.{◌≡◌, false, ℕ, ◌+◌, ◌*◌, ◌≤◌, ◌<◌, length}
use Rattle.std.proofs.Math.Path.{refl}
use mathlib.Core.List.Memᴰ.{head as here}
use mathlib.Core.List.{List, [], ◌∷◌}
use native.Mathlib.Omega.{arith}
use Rattle.std.proofs.Math.ListN.{length-append}
use Rattle.model.specs.Lit.{undef_lit}
use Rattle.model.specs.Script.{Config, Record, clause, solve, kind_of, cost, out_needed}
use Rattle.model.specs.State.{State, Solver, initial_state, initial}
use Rattle.model.specs.Intake.{add_clause}
use Rattle.model.specs.Run.{step, answers, run}
use Rattle.lawbase.specs.Basics.{Every, shrink}
use Rattle.lawbase.specs.Range.{Ranged}
use Rattle.watching.proofs.Moves.{initial_watching}
use Rattle.watching.proofs.Intake.{intaken, intaken_level, add_clause_watching}
use Rattle.ends.specs.Bounds.{Limited}
use Rattle.ends.specs.Answer.{Idle, closed, ready}
use Rattle.ends.proofs.Answer.{solve_idle}
use Rattle.ends.proofs.AnswerShort.{solve_short}

closed-clause : (cfg : Config) (s : State) (c : List ℕ) → s.ok ≡ false → (add_clause cfg s c).state.ok ≡ false
unfolding add_clause
closed-clause cfg s c e = rw (e, add_clause) e

module _ {cfg : Config} (l : Limited cfg) where
  pub clause_idle : (s : State) (c : List ℕ) → Every (λ p. p < 2 * cfg.variables) c → Idle cfg s → Idle cfg (add_clause cfg s c).state
  clause_idle s c r (closed e) = closed (closed-clause cfg s c e)
  clause_idle s c r (ready w z) =
      let small : 2 * cfg.variables ≤ undef_lit = omega (arith, l.variables) in
      ready (add_clause_watching w z c r small)
      (omega (arith, intaken_level (add_clause cfg s c) (intaken cfg s c small r)))

  -- ---- one record

  pub step_idle : (r : Record) (x : Solver) → Ranged cfg.variables r → Idle cfg x.state → Idle cfg (step cfg r x).solver.state
  unfolding step
  step_idle (clause c) x f h = clause_idle x.state c f h
  step_idle (solve ps budget) x f h = solve_idle l x ps f budget h

  -- its cells are never more than it asks of out
  pub step_short : (r : Record) (x : Solver) (rs : List Record) → Ranged cfg.variables r → Idle cfg x.state
      → length (step cfg r x).answer + out_needed cfg.variables rs ≤ out_needed cfg.variables (r ∷ rs)
  unfolding step out_needed cost kind_of
  step_short (clause c) x rs f h = omega arith
  step_short (solve ps budget) x rs f h = omega (arith, solve_short l x ps f budget h)

  -- ---- all records

  pub answers_short : (rs : List Record) (x : Solver) → Every (Ranged cfg.variables) rs → Idle cfg x.state
      → length (answers cfg rs x) ≤ out_needed cfg.variables rs
  unfolding answers
  answers_short [] x f h = omega arith
  answers_short (r ∷ rs) x f h =
      let g = f r (here refl) in
      omega (
        arith,
        length-append (step cfg r x).answer (answers cfg rs (step cfg r x).solver),
        step_short r x rs g h,
        answers_short rs (step cfg r x).solver (shrink f) (step_idle r x g h),
      )

  pub initial_idle : Idle cfg (initial cfg.variables).state
  unfolding initial initial_state
  initial_idle = ready (initial_watching cfg) refl

  pub run_short : (rs : List Record) → Every (Ranged cfg.variables) rs → length (run cfg rs) ≤ out_needed cfg.variables rs
  unfolding run
  run_short rs f = answers_short rs (initial cfg.variables) f initial_idle
