-- What holds between two records, and what a record's answer leaves.
use Rattle.std.specs.Prelude.{ℕ, ◌≡◌, List, length}
use Rattle.std.proofs.Math.Seq.{paste}
use Rattle.model.specs.State as ms
use Rattle.model.specs.State.{decision_level}
use Rattle.ends.specs.Answer.{Idle}
use Rattle.state.specs.Still.{Still, state_at, config_of}
use Rattle.search.specs.declared.Solver.{Solver}
use Rattle.search.specs.Held.{solver_at, Kept}

-- all is at level 0, and nothing is half done
pub record Between (x : Solver) : Type 0 where
  pub still : Still x.state
  pub level : decision_level x.state.trail.vars ≡ 0
  pub idle : Idle (config_of x.state.config) (state_at x.state)
  pub counted : length x.activity.activities ≡ x.state.config.vars

-- m stands at the start of out, with nothing else of it changed, and n is how many cells it has
abbrev pub Put : List ℕ → List ℕ → List ℕ → ℕ → Type 0
Put m out out' n = (out' ≡ paste out 0 m (length m)) × (n ≡ length m)

-- x' is the definition's solver m, and the cells stand in out
pub record Answered (m : ms.Solver) (cells : List ℕ) (x x' : Solver) (out out' : List ℕ) (n : ℕ) : Type 0 where
  pub solver : solver_at x' ≡ m
  pub between : Between x'
  pub kept : Kept x x'
  pub put : Put cells out out' n
