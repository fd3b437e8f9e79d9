-- A search that another one follows has had a conflict; so a solve has turns enough.
use Rattle.std.specs.Prelude.{◌≡◌, List, ℕ, suc, ◌+◌, ◌≤◌, ◌<◌}
use Rattle.std.proofs.Math.Bool.{true, false}
use Rattle.std.proofs.Math.Dec.{ltb}
use Rattle.model.specs.Script.{Config}
use Rattle.model.specs.State.{Solver, decision_level}
use Rattle.model.specs.Search.{TRUE, FALSE, UNDEF, NO_STORAGE, Searched, solve_internal}
use Rattle.ends.specs.Credit.{Ongoing, credit}
use Rattle.ends.specs.Last.{height}

-- another search follows this one
pub record Again (budget : ℕ) (r : Searched) : Type 0 where
  pub status : r.status ≡ UNDEF
  pub affords : r.conflicts < budget

-- what a solve does after a search
unfoldable pub round : Config → List ℕ → ℕ → ℕ → ℕ → Searched → Searched
round cfg ps budget turns k r =
    elim r.status [
      | TRUE ↦ r
      | FALSE final ↦ r
      | NO_STORAGE ↦ r
      | UNDEF ↦ elim (ltb r.conflicts budget) [ true ↦ solve_internal cfg ps budget turns (suc k) r.conflicts r.solver | false ↦ r ]
    ]

-- ---- the next search

-- from the state x of a search with a conflicts behind it, to the next one's
pub record Restarted (cfg : Config) (assumptions : List ℕ) (budget a : ℕ) (x : Solver) (a' : ℕ) (x' : Solver) : Type 0 where
  pub ongoing : Ongoing cfg assumptions x'.state
  pub flat : decision_level x'.state.vars ≡ 0
  pub less : suc (credit cfg x'.state) ≤ credit cfg x.state
  pub spent : a' + credit cfg x'.state ≤ a + credit cfg x.state
  pub high : a + decision_level x.state.vars ≤ height cfg assumptions budget → a' ≤ height cfg assumptions budget

-- a turn that ends in another search
pub record Stopped (cfg : Config) (assumptions : List ℕ) (nof c b : ℕ) (y : Solver) (r : Searched) : Type 0 where
  pub ongoing : Ongoing cfg assumptions r.solver.state
  pub flat : decision_level r.solver.state.vars ≡ 0
  pub kept : credit cfg r.solver.state ≤ credit cfg y.state
  pub reached : nof ≤ b
  pub conflicts : r.conflicts ≡ c
