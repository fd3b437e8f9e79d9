-- A record from where the one before it ended to where it ends itself.
use Rattle.std.specs.Prelude.{ℕ, ◌*◌, ◌≤◌, ◌≡◌, refl, true, false, List, [], ◌∷◌}
use Rattle.std.proofs.Common.{arith, sym, ap, subst, ◌∙◌, true≢false}
use Rattle.std.proofs.Math.Seq.{paste}
use Rattle.model.specs.Lit.{undef_lit, l_false}
use Rattle.model.specs.Script as Script
use Rattle.model.specs.State as ms
use Rattle.model.specs.State.{decision_level, with_state}
use Rattle.model.specs.Search as model
use Rattle.model.specs.Search.{cells, answer_of, still_ok, Solved}
use Rattle.model.specs.Trail.{cancel_until}
use Rattle.model.specs.Intake.{add_clause}
use Rattle.assign.proofs.Back.{cancel_level}
use Rattle.assign.proofs.Searching.{searching_start}
use Rattle.watching.specs.Watching.{Watching}
use Rattle.watching.proofs.Intake.{intaken, intaken_level}
use Rattle.ends.specs.Answer.{Idle, closed, ready, found_by}
use Rattle.ends.proofs.Answer.{solve_cases, solve_idle}
use Rattle.ends.proofs.Out.{clause_idle}
use Rattle.ends.specs.Bounds.{Limited}
use Rattle.options.specs.Numbers.{phase_number}
use Rattle.state.specs.declared.Config.{Config}
use Rattle.state.specs.declared.State.{State}
use Rattle.state.specs.Still.{Still, Has, state_at, config_of}
use Rattle.search.specs.declared.Solver.{Solver}
use Rattle.search.specs.declared.Searched.{Searched}
use Rattle.search.specs.Held.{solver_at, searched_of, Assumable, Running, Kept, Ended}
use Rattle.answer.specs.Answered.{Between, Put, Answered}
use Rattle.answer.specs.Backing.{StillOk}
use Rattle.answer.specs.Cells.{cells-put}

idle_watching : {cfg : Script.Config} {s : ms.State} → Idle cfg s → s.ok ≡ true → Watching cfg s
idle_watching (closed e) t = absurd (true≢false (sym t ∙ e))
idle_watching (ready w z) t = w

-- the solve of a state that may have a model
abbrev solved_by : Script.Config → model.Searched → Solved
solved_by cfg r =
    record { solver = with_state r.solver (cancel_until cfg.phase (still_ok r.status r.solver.state) 0); answer = answer_of r }

module _ (cfg : Script.Config) (m : ms.Solver) (ps : List ℕ) (budget : ℕ) where
  solve_open : m.state.ok ≡ true → model.solve cfg m ps budget ≡ solved_by cfg (found_by cfg m ps budget)
  solve_open t =
      solve_cases (λ (r : Solved). r ≡ solved_by cfg (found_by cfg m ps budget)) cfg m ps budget
      (λ e. absurd (true≢false (sym t ∙ e)))
      (λ _. refl)

  solve-closed : m.state.ok ≡ false → model.solve cfg m ps budget ≡ record { solver = m; answer = cells l_false 0 [] }
  solve-closed f =
      solve_cases (λ (r : Solved). r ≡ record { solver = m; answer = cells l_false 0 [] }) cfg m ps budget
      (λ _. refl)
      (λ e. absurd (true≢false (sym e ∙ f)))

module _ (x : Solver) (between : Between x) (limited : Limited (config_of x.state.config)) where
  -- under the configuration that x had
  between_then : {x' : Solver} → Kept x x' → Still x'.state → decision_level x'.state.trail.vars ≡ 0 → Idle (config_of x.state.config) (state_at x'.state) → Between x'
  between_then {x'} k s z i =
      record {
        still = s;
        level = z;
        idle = subst (λ (g : Config). Idle (config_of g) (state_at x'.state)) (sym k.config) i;
        counted = k.counted ∙ between.counted ∙ sym (ap (λ (g : Config). g.vars) k.config);
      }

  -- ---- a solve

  module _ (ps : List ℕ) (assumable : Assumable x.state.config ps) (budget : ℕ) where
    abbrev cfg : Script.Config
    cfg = config_of x.state.config

    abbrev whole_solve : Solved
    whole_solve = model.solve cfg (solver_at x) ps budget

    -- what the search asks
    pub search_asks : x.state.ok ≡ true → Running ps x
    search_asks t =
        record {
          still = between.still;
          ongoing = record { searching = searching_start between.still.formed ps between.level; watching = idle_watching between.idle t };
          counted = between.counted;
          assumable = assumable;
        }

    module _ (ok : x.state.ok ≡ true) {r : Searched} {x₁ : Solver} (found : Ended (found_by (config_of x.state.config) (solver_at x) ps budget) x x₁ r)
        {s₂ : State} (closing : StillOk r.status x₁.state s₂) {s₄ : State} (has : Has s₄ (cancel_until (phase_number s₂.config.phase) (state_at s₂) 0)) (config : s₄.config ≡ s₂.config) where
      solve_is : solved_by (config_of x.state.config) (searched_of x₁ r) ≡ model.solve (config_of x.state.config) (solver_at x) ps budget
      solve_is = ap (solved_by cfg) found.is ∙ sym (solve_open cfg (solver_at x) ps budget ok)

      answer_is : answer_of (searched_of x₁ r) ≡ (model.solve (config_of x.state.config) (solver_at x) ps budget).answer
      answer_is = ap (λ (t : Solved). t.answer) solve_is

      config_is : s₂.config ≡ x.state.config
      config_is = closing.config ∙ found.kept.config

      state_is : state_at s₄ ≡ cancel_until (phase_number x.state.config.phase) (still_ok (searched_of x₁ r).status (state_at x₁.state)) 0
      state_is =
          has.state
          ∙ ap (λ (g : Config). cancel_until (phase_number g.phase) (state_at s₂) 0) config_is
          ∙ ap (λ (s : ms.State). cancel_until (phase_number x.state.config.phase) s 0) closing.state

      left_is : solver_at (record { state = s₄; activity = x₁.activity }) ≡ (model.solve (config_of x.state.config) (solver_at x) ps budget).solver
      left_is =
          ap (λ (s : ms.State). record { state = s; activity = x₁.activity }) state_is
          ∙ ap (λ (t : Solved). t.solver) solve_is

      level_is : decision_level s₄.trail.vars ≡ 0
      level_is =
          let b = cancel_level (phase_number s₂.config.phase) (state_at s₂) 0 closing.refuted.formed.vars in
          subst (λ (s : ms.State). decision_level s.vars ≡ 0) (sym has.state) (omega (arith, b))

      kept_is : Kept x (record { state = s₄; activity = x₁.activity })
      kept_is = record { config = config ∙ config_is; counted = found.kept.counted }

      pub solved : {out out' : List ℕ} {n : ℕ} → Put (answer_of (searched_of x₁ r)) out out' n
          → Answered (model.solve (config_of x.state.config) (solver_at x) ps budget).solver (model.solve (config_of x.state.config) (solver_at x) ps budget).answer
          x (record { state = s₄; activity = x₁.activity }) out out' n
      solved {out} {out'} {n} put =
          record {
            solver = left_is;
            between =
                between_then kept_is has.still level_is
                (subst (λ (t : ms.Solver). Idle cfg t.state) (sym left_is) (solve_idle limited (solver_at x) ps assumable.range budget between.idle));
            kept = kept_is;
            put = subst (λ (l : List ℕ). Put l out out' n) answer_is put;
          }

    -- the clauses are known to have no model
    pub solved-closed : x.state.ok ≡ false → {out out' : List ℕ} {n : ℕ} → (out' ≡ paste out 0 (cells 1 0 []) 3) × (n ≡ 3)
        → Answered (model.solve (config_of x.state.config) (solver_at x) ps budget).solver (model.solve (config_of x.state.config) (solver_at x) ps budget).answer x x out out' n
    solved-closed f {out} {out'} {n} k =
        subst (λ (t : Solved). Answered t.solver t.answer x x out out' n) (sym (solve-closed cfg (solver_at x) ps budget f))
        (record { solver = refl; between = between; kept = record { config = refl; counted = refl }; put = cells-put out out' n 1 0 [] k })

  -- ---- a clause

  module _ (part : List ℕ) (assumable : Assumable x.state.config part) {s₁ : State}
      (has : Has s₁ (add_clause (config_of x.state.config) (state_at x.state) part).state) (config : s₁.config ≡ x.state.config) where
    clause_level : decision_level s₁.trail.vars ≡ 0
    clause_level =
        let small : 2 * (config_of x.state.config).variables ≤ undef_lit = omega (arith, limited.variables) in
        subst (λ (s : ms.State). decision_level s.vars ≡ 0) (sym has.state)
        (intaken_level (add_clause (config_of x.state.config) (state_at x.state) part) (intaken (config_of x.state.config) (state_at x.state) part small assumable.range) ∙ between.level)

    clause_kept : Kept x (record { state = s₁; activity = x.activity })
    clause_kept = record { config = config; counted = refl }

    pub clause-answered : {a : ℕ} → a ≡ (add_clause (config_of x.state.config) (state_at x.state) part).answer → {out out' : List ℕ} {n : ℕ} → Put (a ∷ []) out out' n
        → Answered (with_state (solver_at x) (add_clause (config_of x.state.config) (state_at x.state) part).state) ((add_clause (config_of x.state.config) (state_at x.state) part).answer ∷ [])
        x (record { state = s₁; activity = x.activity }) out out' n
    clause-answered {a} e {out} {out'} {n} p =
        record {
          solver = ap (λ (s : ms.State). record { state = s; activity = x.activity }) has.state;
          between =
              between_then clause_kept has.still clause_level
              (subst (Idle (config_of x.state.config)) (sym has.state) (clause_idle limited (state_at x.state) part assumable.range between.idle));
          kept = clause_kept;
          put = subst (λ (b : ℕ). Put (b ∷ []) out out' n) e p;
        }
