-- A clause that is no reason may be reordered. And what is known of a watch that is looked at.
use Rattle.std.specs.Prelude.{List, ℕ, ◌*◌, ◌<◌, length, set}
use Rattle.model.specs.Lit.{neg}
use Rattle.model.specs.Script.{Config}
use Rattle.model.specs.State.{Watch, State, clause_at, with_watches}
use Rattle.lawbase.specs.Basics.{◌∈◌}
use Rattle.lawbase.specs.WellFormed.{Proper}
use Rattle.watching.specs.Look.{Seconded}

-- the state with l as the list of p
abbrev pub listed : ℕ → List Watch → State → State
listed p l s = with_watches s (set s.store.watches p l)

-- what is known when the watch w of p is looked at
pub record Looking (cfg : Config) (p : ℕ) (w : Watch) (s : State) : Type 0 where
  pub range : p < 2 * cfg.variables
  pub lists : p < length s.store.watches
  pub inside : w.clause < length s.store.clauses
  pub proper : Proper cfg.variables (clause_at s.store w.clause)
  pub blocker : w.blocker ∈ (clause_at s.store w.clause)
  pub shape : Seconded (neg p) (clause_at s.store w.clause)
