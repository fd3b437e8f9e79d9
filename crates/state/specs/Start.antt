-- The start: what the slice is asked for, and what is made of it.
use Rattle.std.specs.Prelude.{ℕ, ◌+◌, ◌*◌, ◌≤◌, ◌≡◌, true, List, [], take, drop, replicate}
use Rattle.model.specs.Limits.{max_variables, max_clauses, max_literals}
use Rattle.model.specs.State.{initial_state}
use Rattle.trail.specs.View as trail
use Rattle.trail.specs.View.{initial_assignment}
use Rattle.scratch.specs.Row.{row}
use Rattle.watch.specs.View as watch
use Rattle.watch.specs.View.{emptied}
use Rattle.store.specs.View as store
use Rattle.store.specs.View.{no_clauses}
use Rattle.state.specs.declared.Config.{Config}
use Rattle.state.specs.declared.State.{State}
use Rattle.state.specs.Still.{Has}

-- how many cells the blocks take
abbrev pub used : Config → ℕ
used g = 24 * g.vars + 5 * g.room + g.lit_room + 2

-- the blocks fit a slice of n cells
pub record Room (g : Config) (n : ℕ) : Type 0 where
  pub fits : used g ≤ n
  pub some : 1 ≤ g.vars
  pub vars : g.vars ≤ max_variables
  pub room : g.room ≤ max_clauses
  pub lit_room : g.lit_room ≤ max_literals

-- what is made of the cells w, part by part: what holds nothing yet is as it was found
abbrev pub at_start : Config → List ℕ → State
at_start g w =
    let n = g.vars in
    let r₁ = drop (8 * n) w in
    let r₂ = drop (5 * n) r₁ in
    let r₃ = drop (8 * n + 4 * g.room) r₂ in
    let r₄ = drop (g.room + 1) r₃ in
    let r₅ = drop g.lit_room r₄ in
    let r₆ = drop (2 * n) r₅ in
    record {
      config = g;
      trail = initial_assignment n (trail.found n (take (8 * n) w));
      scratch = record {
        marks = replicate n 0;
        buffer = row 0 (take (2 * n) (drop n (take (5 * n) r₁)));
        stack = row 0 (take n (drop (3 * n) (take (5 * n) r₁)));
        notes = row 0 (take n (drop (4 * n) (take (5 * n) r₁)));
      };
      watches = emptied (2 * n) (watch.found (2 * n) (2 * g.room) (take (8 * n + 4 * g.room) r₂));
      clauses = no_clauses (store.found (take (g.room + 1) r₃) (take g.lit_room r₄));
      finals = record { items = []; flag_cells = replicate (2 * n) 0; item_cells = take (n + 1) r₆ };
      qhead = 0;
      ok = true;
    }

-- what `new` makes of the cells w
pub record Started (g : Config) (w : List ℕ) (s : State) : Type 0 where
  pub is : s ≡ at_start g w
  pub config : s.config ≡ g
  pub has : Has s (initial_state g.vars)
