-- The whole run: the book's demand holds of the answers that the definition gives.
use Rattle.std.specs.Prelude.{◌≡◌, ℕ, ◌≤◌, length}
use mathlib.Core.List.{List, ◌++◌}
use Rattle.model.specs.Limits as Limits
use Rattle.model.specs.Script.{Config, Record}
use Rattle.model.specs.Search.{Solved}
use Rattle.model.specs.Book.{entry, answer_cells, taken_by}
use Rattle.lawbase.specs.Basics.{Every}
use Rattle.lawbase.specs.Range.{Ranged}
use Rattle.book.specs.Demand.{Fair}
use Rattle.sound.specs.Sound.{Ready}

-- ---- what is asked of a script

-- what an accepted script has
pub record Fits (cfg : Config) (rs : List Record) : Type 0 where
  pub variables : cfg.variables ≤ Limits.max_variables
  pub clauses : cfg.max_clauses ≤ Limits.max_clauses
  pub records : Every (Ranged cfg.variables) rs

-- ---- one record

-- Its answer is read as such, whatever stands behind it in out.
pub record Reads (taken : List (List ℕ)) (r : Record) (answer : List ℕ) : Type 0 where
  pub cells : (out : List ℕ) → answer_cells r (answer ++ out) ≡ length answer
  pub entry_is : (out : List ℕ) → entry taken r (answer ++ out) ≡ entry taken r answer
  pub taken_is : (out : List ℕ) → taken_by taken r (answer ++ out) ≡ taken_by taken r answer

-- what a record's step comes to, after the clauses taken
pub record Stepped (cfg : Config) (taken : List (List ℕ)) (r : Record) (q : Solved) : Type 0 where
  pub reads : Reads taken r q.answer
  pub fair : Fair cfg.variables (entry taken r q.answer)
  pub log : List (List ℕ)
  pub ready : Ready cfg (taken_by taken r q.answer) log q.solver.state
