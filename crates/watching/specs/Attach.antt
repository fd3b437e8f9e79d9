-- Storing a clause keeps the store, and watches the clause by its first two literals.
use Rattle.std.specs.Prelude.{ℕ}
use mathlib.Core.List.{List}
use Rattle.model.specs.Lit.{neg}
use Rattle.model.specs.State.{Watch}
use Rattle.model.specs.Store.{push_watch}

-- the lists with the two watches of clause cr, c0 and c1 its first two literals
abbrev pub both_watched : List (List Watch) → ℕ → ℕ → ℕ → List (List Watch)
both_watched ws cr c0 c1 = push_watch (push_watch ws (neg c0) (record { clause = cr; blocker = c1 })) (neg c1) (record { clause = cr; blocker = c0 })
