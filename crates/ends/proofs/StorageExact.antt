-- A conflict above level 0 ends a search for want of storage exactly when its clause has two literals or more and the store is full.
use Rattle.std.specs.Prelude.{◌≡◌, ◌↔◌, List, ℕ, ◌≤◌, ◌<◌, length}
use Rattle.model.specs.Lit.{no_reason}
use Rattle.model.specs.Script.{Config}
use Rattle.model.specs.State.{State, Solver, decision_level, with_state}
use Rattle.model.specs.Analyze.{analyze}
use Rattle.model.specs.Search.{ends, turn}
use Rattle.ends.specs.Credit.{Ongoing}
use Rattle.ends.specs.Comes.{Clashes}
use Rattle.ends.specs.Storage.{unstored, Crowded}
use Rattle.ends.proofs.Storage.{ends_full, full_crowded, full_ends, crowded_full}

-- ---- a turn

module _ (cfg : Config) (small : cfg.max_clauses ≤ no_reason) (ps : List ℕ) (budget nof a b : ℕ) (x : Solver) (o : Ongoing cfg ps x.state) (confl : ℕ)
    (s : State) (c : Clashes cfg x.state confl s) where
  -- a conflict above level 0 ends the search for want of storage exactly when its clause has two literals or more and there is no room
  pub storage_exact : 0 < decision_level s.vars
      → (turn cfg ps budget nof a b x ≡ ends (unstored cfg a x confl s))
      ↔ ((2 ≤ length (analyze cfg (with_state x s) confl).clause) × Crowded cfg s.store (analyze cfg (with_state x s) confl).clause)
  storage_exact d = (
    λ e.
        let f = ends_full cfg small ps budget nof a b x o confl s c e d in
        (f.two, full_crowded c.clashed.conflict.falsified.formed.store f),
    λ h. full_ends cfg small ps budget nof a b x o confl s c d (crowded_full h.0 h.1),
  )
