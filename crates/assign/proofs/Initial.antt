-- The state of n variables and no clauses is well-formed.
use Rattle.std.proofs.Common.{sym, subst, arith}
use mathlib.Core.List.Memᴰ.{head as here}
use mathlib.Core.List.Memᴰ.{not-nil}
use mathlib.Core.List.Memᴰ.{tail as there}
use Rattle.std.specs.Prelude.{List, [], ℕ, suc, zero, ◌*◌, ◌<◌, replicate}
use Rattle.std.proofs.lemmas.List.{length-replicate, get_or-replicate}
use Rattle.model.specs.Lit.{no_reason, l_undef}
use Rattle.model.specs.Script.{Config}
use Rattle.model.specs.State.{Watch, initial_state}
use Rattle.model.specs.Store.{stored_literals}
use Rattle.lawbase.specs.Basics.{Every, every_nil}
use Rattle.lawbase.specs.WellFormed.{Assignment, Proper, Watches, Watched, Stored, WellFormed}

every_replicate : (P : ℕ → Type 0) (n a : ℕ) → P a → Every P (replicate n a)
every_replicate P zero a h x i = absurd (not-nil i)
every_replicate P (suc n) a h x (here e) = subst P (sym e) h
every_replicate P (suc n) a h x (there i) = every_replicate P n a h x i

pub initial_assignment : (n : ℕ) (cs : List (List ℕ)) → Assignment n cs (initial_state n).vars
unfolding initial_state
initial_assignment n cs =
    record {
      values = length-replicate n l_undef;
      levels = length-replicate n 0;
      reasons = length-replicate n no_reason;
      entries = tt;
      unset = λ v h f. get_or-replicate n v l_undef 0 h;
      limits = λ k h. absurd (omega arith);
      sorted = λ j k a h. absurd (omega arith);
    }

pub initial_watched : (n : ℕ) → Watched n [] (initial_state n).store.watches
unfolding initial_state
initial_watched n =
    record {
      lists = length-replicate (2 * n) [];
      known = λ l h. rw (get_or-replicate {A = List Watch} (2 * n) l [] [] h) (every_nil (Watches []));
      twice = λ c l h b. absurd (omega arith);
    }

pub initial-stored : (cfg : Config) → Stored cfg (initial_state cfg.variables).store
unfolding initial_state stored_literals
initial-stored cfg =
    record {
      clauses = omega arith;
      literals = omega arith;
      proper = every_nil (Proper cfg.variables);
      watched = initial_watched cfg.variables;
    }

pub initial_formed : (cfg : Config) → WellFormed cfg (initial_state cfg.variables)
unfolding initial_state
initial_formed cfg =
    record {
      store = initial-stored cfg;
      vars = initial_assignment cfg.variables [];
      phases = length-replicate cfg.variables 1;
      signs = every_replicate (λ x. x < 2) cfg.variables 1 (omega arith);
      qhead = omega arith;
    }
