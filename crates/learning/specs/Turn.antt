-- A turn of `resolve`: what holds of the resolvent so far is kept, and no reason of a decision is read.
use Rattle.std.specs.Prelude.{◌∷◌, ℕ, ◌-◌, set}
use Rattle.model.specs.Lit.{var, neg}
use Rattle.model.specs.Analyze.{Resolvent}

-- ---- the branches, once

-- p is taken out, to be resolved
abbrev pub less : ℕ → Resolvent → Resolvent
less p r = record { seen = set r.seen (var p) 0; path = r.path - 1; learnt = r.learnt; activity = r.activity }

-- p is the first UIP
abbrev pub stopped : ℕ → Resolvent → Resolvent
stopped p r = record { seen = set r.seen (var p) 0; path = 0; learnt = neg p ∷ r.learnt; activity = r.activity }
