-- `cancel_until` keeps what is well-formed.
use Rattle.std.specs.Prelude.{ℕ}
use Rattle.model.specs.State.{State}
use Rattle.model.specs.Trail.{save, saved_part, level_end, vars_until}

-- the state without what stands above `level`
abbrev pub cut : ℕ → State → ℕ → State
cut phase s level =
    record {
      ok = s.ok;
      store = s.store;
      vars = vars_until s.vars level;
      phases = save s.phases (saved_part phase s.vars level);
      qhead = level_end s.vars level;
    }
