-- The assignment as the definition has it, with the phases, and what its functions do to it.
use Rattle.std.specs.Prelude.{ℕ, zero, suc, ◌-◌, ◌*◌, ◌≤◌, ◌<◌, max, ◌≡◌, Bool, true, false, List, [], length, get_or, set, take, drop, ltb, leb}
use Rattle.model.specs.Limits.{max_variables}
use Rattle.model.specs.Lit.{var, sign, l_undef}
use Rattle.model.specs.State.{VarState, initial_state, decision_level}
use Rattle.model.specs.Trail.{unchecked_enqueue, new_decision_level, vars_until, unset, save, saved_part, level_end}
use Rattle.trail.specs.declared.Parts.{Parts}

-- the cells of the trail and of the limits are all there, those past the ends too
pub record Assignment : Type 0 where
  pub vars : VarState
  pub phases : List ℕ
  pub trail_cells : List ℕ
  pub limit_cells : List ℕ

-- what the cells of n variables show before anything is set
abbrev pub found : ℕ → List ℕ → Assignment
found n w =
    record {
      vars = record { values = take n w; levels = take n (drop n w); reasons = take n (drop (2 * n) w); trail = []; limits = [] };
      phases = take n (drop (3 * n) w);
      trail_cells = take n (drop (4 * n) w);
      limit_cells = take (3 * n) (drop (5 * n) w);
    }

-- n variables, none assigned; the cells of the trail and of the limits are as in a
abbrev pub initial_assignment : ℕ → Assignment → Assignment
initial_assignment n a = record { vars = (initial_state n).vars; phases = (initial_state n).phases; trail_cells = a.trail_cells; limit_cells = a.limit_cells }

abbrev pub enqueued : Assignment → ℕ → ℕ → Assignment
enqueued a p from =
    record {
      vars = unchecked_enqueue a.vars p from;
      phases = a.phases;
      trail_cells = set a.trail_cells (length a.vars.trail) p;
      limit_cells = a.limit_cells;
    }

abbrev pub next_level : Assignment → Assignment
next_level a =
    record {
      vars = new_decision_level a.vars;
      phases = a.phases;
      trail_cells = a.trail_cells;
      limit_cells = set a.limit_cells (length a.vars.limits) (length a.vars.trail);
    }

-- back to a level, with the phases saved
abbrev pub until : ℕ → Assignment → ℕ → Assignment
until phase a level =
    record {
      vars = vars_until a.vars level;
      phases = save a.phases (saved_part phase a.vars level);
      trail_cells = a.trail_cells;
      limit_cells = a.limit_cells;
    }

-- the same, where there are levels above it
unfoldable pub back_to : ℕ → Assignment → ℕ → Assignment
back_to phase a level = elim (leb (decision_level a.vars) level) [ true ↦ a | false ↦ until phase a level ]

-- each value is one of the three
abbrev pub Values : List ℕ → Type 0
Values xs = (v : ℕ) → get_or xs v 0 < 3

-- what is true of every trail
pub record Sound (a : Assignment) : Type 0 where
  pub levels : length a.vars.levels ≡ length a.vars.values
  pub reasons : length a.vars.reasons ≡ length a.vars.values
  pub phases : length a.phases ≡ length a.vars.values
  pub trail_cells : length a.trail_cells ≡ length a.vars.values
  pub limit_cells : length a.limit_cells ≡ 3 * length a.vars.values
  pub trail : a.vars.trail ≡ take (length a.vars.trail) a.trail_cells
  pub limits : a.vars.limits ≡ take (length a.vars.limits) a.limit_cells
  pub assigned : length a.vars.trail ≤ length a.vars.values
  pub depth : length a.vars.limits ≤ 3 * length a.vars.values
  pub vars : length a.vars.values ≤ max_variables
  pub values : Values a.vars.values

-- how long the trail is, and how many levels there are
pub record Counted (a : Assignment) (m n : ℕ) : Type 0 where
  pub assigned : length a.vars.trail ≡ m
  pub levels : decision_level a.vars ≡ n

-- ---- the way back

-- each literal of a list is of one of n variables
abbrev pub LitsOf : ℕ → List ℕ → Type 0
LitsOf n ps = (i : ℕ) → i < length ps → var (get_or ps i 0) < n

-- what the way back to a level asks: the level starts on the trail, no later than the last one
pub record Undoable (n : ℕ) (vs : VarState) (level : ℕ) : Type 0 where
  pub within : level_end vs level ≤ length vs.trail
  pub ordered : level_end vs level ≤ level_end vs (decision_level vs - 1)
  pub lits : LitsOf n vs.trail

-- whether the sign of the literal at place c of the trail is saved: in phase 2 each, in phase 1 those above the last limit
abbrev pub saves : ℕ → ℕ → ℕ → Bool
saves zero last c = false
saves (suc zero) last c = ltb last c
saves (suc (suc phase)) last c = true

abbrev pub save_if : Bool → List ℕ → ℕ → List ℕ
save_if true phases p = set phases (var p) (sign p)
save_if false phases p = phases

-- the last literal of the trail goes
unfoldable pub undone : ℕ → ℕ → Assignment → Assignment
undone phase last a =
    let c = length a.vars.trail - 1 in
    let p = get_or a.vars.trail c 0 in
    record {
      vars =
          record {
            values = set a.vars.values (var p) l_undef;
            levels = a.vars.levels;
            reasons = a.vars.reasons;
            trail = take c a.vars.trail;
            limits = a.vars.limits;
          };
      phases = save_if (saves phase last c) a.phases p;
      trail_cells = a.trail_cells;
      limit_cells = a.limit_cells;
    }

-- of the literals from place k on, those whose signs are saved
abbrev pub saved_from : ℕ → ℕ → ℕ → List ℕ → List ℕ
saved_from zero last k trail = []
saved_from (suc zero) last k trail = drop (max k (suc last)) trail
saved_from (suc (suc phase)) last k trail = drop k trail

-- all from place k on went
unfoldable pub undone_to : ℕ → ℕ → ℕ → Assignment → Assignment
undone_to phase last k a =
    record {
      vars =
          record {
            values = unset a.vars.values (drop k a.vars.trail);
            levels = a.vars.levels;
            reasons = a.vars.reasons;
            trail = take k a.vars.trail;
            limits = a.vars.limits;
          };
      phases = save a.phases (saved_from phase last k a.vars.trail);
      trail_cells = a.trail_cells;
      limit_cells = a.limit_cells;
    }

-- ---- the slices

-- the assignment that they hold
abbrev pub assignment_of : Parts → Assignment
assignment_of p =
    record {
      vars =
          record {
            values = p.values.now;
            levels = p.levels.now;
            reasons = p.reasons.now;
            trail = take p.assigned p.literals.now;
            limits = take p.depth p.limits.now;
          };
      phases = p.phases.now;
      trail_cells = p.literals.now;
      limit_cells = p.limits.now;
    }

-- what is kept true of them
pub record Rep (p : Parts) : Type 0 where
  pub levels : length p.levels.now ≡ length p.values.now
  pub reasons : length p.reasons.now ≡ length p.values.now
  pub phases : length p.phases.now ≡ length p.values.now
  pub literals : length p.literals.now ≡ length p.values.now
  pub limits : length p.limits.now ≡ 3 * length p.values.now
  pub assigned : p.assigned ≤ length p.values.now
  pub depth : p.depth ≤ 3 * length p.values.now
  pub vars : length p.values.now ≤ max_variables
  pub values : Values p.values.now
