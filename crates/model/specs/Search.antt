-- Rules 5, 8 and 9: `search`, `solve_internal`, and the answer of a solve.
use Rattle.std.specs.Prelude.{ℕ, zero, suc, ◌+◌, ◌*◌, true, false, ◌||◌, List, [], ◌∷◌, length, leb, ltb, eqb}
use Rattle.std.specs.Prelude.{Option, None as none, Some as some}
use Rattle.model.specs.Lit.{no_reason, l_true, l_false, l_undef}
use Rattle.model.specs.Luby.{luby}
use Rattle.model.specs.Script.{Config}
use Rattle.model.specs.State.{State, Solver, decision_level, with_ok, with_store, with_vars, with_state, with_activity}
use Rattle.model.specs.Store.{has_room, attach_clause}
use Rattle.model.specs.Trail.{unchecked_enqueue, cancel_until}
use Rattle.model.specs.Activity.{var_decay_activity}
use Rattle.model.specs.Propagate.{propagate}
use Rattle.model.specs.Analyze.{analyze}
use Rattle.model.specs.Decide.{decide, decided, complete, failed}

-- how a search ends: TRUE; FALSE with its final clause; UNDEF, for a restart or for the budget; no storage for a learnt clause
pub data Status : Type 0 where
  TRUE : Status
  FALSE : List ℕ → Status
  UNDEF : Status
  NO_STORAGE : Status

-- `conflicts` are those of the solve
pub record Searched : Type 0 where
  pub solver : Solver
  pub conflicts : ℕ
  pub status : Status

-- Rule 5. A unit goes to level 0; a clause of two or more literals goes to the store, and is the reason of its first one; `none` where there is no
-- room for it.
unfoldable pub add_learnt_and_backtrack : Config → State → List ℕ → ℕ → Option State
add_learnt_and_backtrack cfg s [] level = none
add_learnt_and_backtrack cfg s (uip ∷ []) level =
    let s₀ = cancel_until cfg.phase s 0 in
    some (with_vars s₀ (unchecked_enqueue s₀.vars uip no_reason))
add_learnt_and_backtrack cfg s (uip ∷ second ∷ more) level =
    let c = uip ∷ second ∷ more in
    let s₁ = cancel_until cfg.phase s level in
    let cr = length s.store.clauses in
    elim (has_room cfg s.store c) [
      | true ↦ some (with_store (with_vars s₁ (unchecked_enqueue s₁.vars uip cr)) (attach_clause s₁.store c))
      | false ↦ none
    ]

-- what a turn of `search` comes to: another turn, with the conflicts of the solve and of this search so far, or the end
pub data Turn : Type 0 where
  goes_on : ℕ → ℕ → Solver → Turn
  ends : Searched → Turn

-- A false clause. At level 0 it ends the solve, and is not analysed. Where there is no storage, the bumps stay, and nothing else is done.
unfoldable pub on_conflict : Config → ℕ → ℕ → Solver → ℕ → Turn
on_conflict cfg conflicts conflict_c x confl =
    elim (eqb (decision_level x.state.vars) 0) [
      | true ↦ ends (record { solver = x; conflicts = suc conflicts; status = FALSE [] })
      | false ↦
          let learnt = analyze cfg x confl in
          elim (add_learnt_and_backtrack cfg x.state learnt.clause learnt.level) [
            | none ↦ ends (record { solver = with_activity x learnt.activity; conflicts = suc conflicts; status = NO_STORAGE })
            | some s ↦ goes_on (suc conflicts) (suc conflict_c) (record { state = s; activity = var_decay_activity learnt.activity })
          ]
    ]

-- each search that goes on after a conflict has stored a clause, or put a unit at level 0
unfoldable pub most_conflicts : Config → ℕ
most_conflicts cfg = cfg.max_clauses + cfg.variables

-- each level is opened by an assumption, or by a decision
unfoldable pub most_levels : Config → List ℕ → ℕ
most_levels cfg assumptions = cfg.variables + length assumptions

-- a turn without a conflict opens a level, or is the last
unfoldable pub most_turns : Config → List ℕ → ℕ
most_turns cfg assumptions = suc (most_conflicts cfg) * suc (most_levels cfg assumptions)

module _ (cfg : Config) (assumptions : List ℕ) (budget : ℕ) where
  -- No false clause. Here alone, restart and budget are looked at; then comes the next decision.
  unfoldable pub on_no_conflict : ℕ → ℕ → ℕ → Solver → Turn
  on_no_conflict nof_conflicts conflicts conflict_c x =
      elim (leb nof_conflicts conflict_c || leb budget conflicts) [
        | true ↦ ends (record { solver = with_state x (cancel_until cfg.phase x.state 0); conflicts = conflicts; status = UNDEF })
        | false ↦
            elim (decide x.activity.activities assumptions x.state) [
              | decided s ↦ goes_on conflicts conflict_c (with_state x s)
              | complete s ↦ ends (record { solver = with_state x s; conflicts = conflicts; status = TRUE })
              | failed s final ↦ ends (record { solver = with_state x s; conflicts = conflicts; status = FALSE final })
            ]
      ]

  -- one turn of the loop of `search`
  unfoldable pub turn : ℕ → ℕ → ℕ → Solver → Turn
  turn nof_conflicts conflicts conflict_c x =
      let r = propagate cfg.variables x.state in
      elim r.conflict [
        | some confl ↦ on_conflict cfg conflicts conflict_c (with_state x r.state) confl
        | none ↦ on_no_conflict nof_conflicts conflicts conflict_c (with_state x r.state)
      ]

  unfoldable pub search : ℕ → ℕ → ℕ → ℕ → Solver → Searched
  search nof_conflicts zero conflicts conflict_c x = record { solver = x; conflicts = conflicts; status = UNDEF }
  search nof_conflicts (suc turns) conflicts conflict_c x =
      elim (turn nof_conflicts conflicts conflict_c x) [
        | goes_on conflicts' conflict_c' x' ↦ search nof_conflicts turns conflicts' conflict_c' x'
        | ends r ↦ r
      ]

  -- Rule 8. A search that another one follows has had a conflict, so one more than the most conflicts is turns enough.
  unfoldable pub solve_internal : ℕ → ℕ → ℕ → Solver → Searched
  solve_internal zero curr_restarts conflicts x = record { solver = x; conflicts = conflicts; status = UNDEF }
  solve_internal (suc turns) curr_restarts conflicts x =
      let r = search (luby curr_restarts * cfg.unit) (most_turns cfg assumptions) conflicts 0 x in
      elim r.status [
        | TRUE ↦ r
        | FALSE final ↦ r
        | NO_STORAGE ↦ r
        | UNDEF ↦ elim (ltb r.conflicts budget) [ true ↦ solve_internal turns (suc curr_restarts) r.conflicts r.solver | false ↦ r ]
      ]

-- ---- the answer

-- the cell of cause behind UNDEF
abbrev pub cause_budget : ℕ
cause_budget = 1

abbrev pub cause_no_storage : ℕ
cause_no_storage = 2

-- the out cells of a solve
unfoldable pub cells : ℕ → ℕ → List ℕ → List ℕ
cells answer conflicts body = answer ∷ conflicts ∷ length body ∷ body

unfoldable pub answer_of : Searched → List ℕ
answer_of r =
    elim r.status [
      | TRUE ↦ cells l_true r.conflicts r.solver.state.vars.values
      | FALSE final ↦ cells l_false r.conflicts final
      | UNDEF ↦ cells l_undef r.conflicts (cause_budget ∷ [])
      | NO_STORAGE ↦ cells l_undef r.conflicts (cause_no_storage ∷ [])
    ]

-- FALSE with an empty final clause holds for good
unfoldable pub still_ok : Status → State → State
still_ok TRUE s = s
still_ok (FALSE []) s = with_ok s false
still_ok (FALSE (l ∷ ls)) s = s
still_ok UNDEF s = s
still_ok NO_STORAGE s = s

pub record Solved : Type 0 where
  pub solver : Solver
  pub answer : List ℕ

-- Rule 9: after the answer, back to level 0.
unfoldable pub solve : Config → Solver → List ℕ → ℕ → Solved
solve cfg x assumptions budget =
    elim x.state.ok [
      | false ↦ record { solver = x; answer = cells l_false 0 [] }
      | true ↦
          let r = solve_internal cfg assumptions budget (suc (most_conflicts cfg)) 0 0 x in
          let s = still_ok r.status r.solver.state in
          record { solver = with_state r.solver (cancel_until cfg.phase s 0); answer = answer_of r }
    ]
