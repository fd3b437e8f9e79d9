-- A turn that goes on has less left, so a search has turns enough: it always ends by a turn that ends it.
use Rattle.std.specs.Prelude.{◌≡◌, ◌⊎◌, List, ℕ, suc, ◌≤◌, ◌<◌}
use Rattle.model.specs.Script.{Config}
use Rattle.model.specs.State.{Solver, decision_level}
use Rattle.model.specs.Search.{Searched, Turn, goes_on, ends}
use Rattle.ends.specs.Credit.{Ongoing, credit, left}

-- P of what a turn goes on with, Q of what it ends with
abbrev pub Then : (ℕ → ℕ → Solver → Type 0) → (Searched → Type 0) → Turn → Type 0
Then P Q (goes_on a b x) = P a b x
Then P Q (ends r) = Q r

-- a conflict more, some credit less, a level less or more
pub record Conflicted (cfg : Config) (a b : ℕ) (x : Solver) (a' b' : ℕ) (x' : Solver) : Type 0 where
  pub conflicts : a' ≡ suc a
  pub conflict_c : b' ≡ suc b
  pub spent : suc (credit cfg x'.state) ≤ credit cfg x.state
  pub shallower : decision_level x'.state.vars < decision_level x.state.vars

-- no conflict, a level more
pub record Deeper (cfg : Config) (budget nof a b : ℕ) (x : Solver) (a' b' : ℕ) (x' : Solver) : Type 0 where
  pub conflicts : a' ≡ a
  pub conflict_c : b' ≡ b
  pub kept : credit cfg x'.state ≤ credit cfg x.state
  pub deeper : decision_level x.state.vars < decision_level x'.state.vars
  pub searches : b < nof
  pub affords : a < budget

pub record Less (cfg : Config) (assumptions : List ℕ) (budget nof a b : ℕ) (x : Solver) (a' b' : ℕ) (x' : Solver) : Type 0 where
  pub ongoing : Ongoing cfg assumptions x'.state
  pub less : left cfg assumptions x'.state < left cfg assumptions x.state
  pub step : Conflicted cfg a b x a' b' x' ⊎ Deeper cfg budget nof a b x a' b' x'
