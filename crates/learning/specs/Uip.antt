-- `first_uip` is rule 3 as published.
use Rattle.std.specs.Prelude.{[], ℕ, replicate}
use Rattle.model.specs.State.{Activity}
use Rattle.model.specs.Analyze.{Resolvent}

-- nothing is seen yet
abbrev pub nothing : ℕ → Activity → Resolvent
nothing n a = record { seen = replicate n 0; path = 0; learnt = []; activity = a }
