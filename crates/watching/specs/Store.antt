-- The store: counts of watches, room, and storing a clause.
use Rattle.std.specs.Prelude.{ℕ, ◌+◌, ◌≤◌, ◌<◌, eqb, get_or}
use mathlib.Core.List.{List}
use Rattle.std.proofs.Math.ListN.{length}
use Rattle.model.specs.Lit.{neg}
use Rattle.model.specs.Script.{Config}
use Rattle.model.specs.State.{Store}
use Rattle.model.specs.Store.{stored_literals}
use Rattle.lawbase.specs.WellFormed.{bit}

-- ---- room

pub record Room (cfg : Config) (st : Store) (c : List ℕ) : Type 0 where
  pub clauses : length st.clauses < cfg.max_clauses
  pub literals : stored_literals st.clauses + length c ≤ cfg.max_literals

-- ---- counts

-- how often a clause is due in the list of l: once for each of its first two literals that is l's negation
abbrev pub due : ℕ → List ℕ → ℕ
due l c = bit (eqb l (neg (get_or c 0 0))) + bit (eqb l (neg (get_or c 1 0)))
