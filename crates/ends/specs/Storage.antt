-- No storage: exactly when a learnt clause of two literals or more meets a full store, and what is left then.
use Rattle.std.specs.Prelude.{◌≡◌, ◌⊎◌, List, ℕ, suc, ◌+◌, ◌≤◌, ◌<◌, length}
use Rattle.model.specs.Script.{Config}
use Rattle.model.specs.State.{Store, State, Solver, decision_level, with_state, with_activity}
use Rattle.model.specs.Store.{stored_literals}
use Rattle.model.specs.Analyze.{analyze}
use Rattle.model.specs.Search.{NO_STORAGE, Searched}
use Rattle.ends.specs.Comes.{Clashes}

-- C clauses are stored, or the stored literals with those of the clause would pass L
abbrev pub Crowded : Config → Store → List ℕ → Type 0
Crowded cfg st c = (length st.clauses ≡ cfg.max_clauses) ⊎ (cfg.max_literals < stored_literals st.clauses + length c)

-- ---- a turn

-- the bumps stay, and nothing else is done
abbrev pub unstored : Config → ℕ → Solver → ℕ → State → Searched
unstored cfg a x confl s =
    record { solver = with_activity (with_state x s) (analyze cfg (with_state x s) confl).activity; conflicts = suc a; status = NO_STORAGE }

-- a turn that ends so
pub record Unstored (cfg : Config) (a : ℕ) (x : Solver) (r : Searched) : Type 0 where
  pub confl : ℕ
  pub state : State
  pub clashes : Clashes cfg x.state confl state
  pub deep : 0 < decision_level x.state.vars
  pub two : 2 ≤ length (analyze cfg (with_state x state) confl).clause
  pub crowded : Crowded cfg state.store (analyze cfg (with_state x state) confl).clause
  pub is : r ≡ unstored cfg a x confl state
