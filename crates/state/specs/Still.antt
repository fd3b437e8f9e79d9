-- What the blocks hold, as the definition's state, and what holds of it between two steps of a run.
use Rattle.std.specs.Prelude.{◌+◌, ◌*◌, ◌≤◌, ◌≡◌, [], length, replicate}
use Rattle.model.specs.Limits.{max_variables, max_clauses, max_literals}
use Rattle.model.specs.Script as Script
use Rattle.model.specs.State.{State}
use Rattle.lawbase.specs.WellFormed.{WellFormed}
use Rattle.options.specs.Numbers.{mode_number, phase_number}
use Rattle.trail.specs.View.{Assignment}
use Rattle.scratch.specs.declared.Scratch.{Scratch}
use Rattle.scratch.specs.Marks.{SoundMarks, sound_none}
use Rattle.store.specs.View.{Clauses}
use Rattle.litset.specs.View.{Members}
use Rattle.watch.specs.View.{Watches, Chains, Under}
use Rattle.watch.specs.Meaning.{as_watches}
use Rattle.state.specs.declared.Config.{Config}
use Rattle.state.specs.declared.State as declared

-- the definition's configuration
abbrev pub config_of : Config → Script.Config
config_of g =
    record {
      variables = g.vars;
      max_clauses = g.room;
      max_literals = g.lit_room;
      mode = mode_number g.mode;
      phase = phase_number g.phase;
      unit = g.unit;
    }

-- the definition's state
abbrev pub state_at : declared.State → State
state_at s =
    record {
      ok = s.ok;
      store = record { clauses = s.clauses.clauses; watches = as_watches s.watches };
      vars = s.trail.vars;
      phases = s.trail.phases;
      qhead = s.qhead;
    }

-- the blocks are as large as the configuration asks
pub record Sizes (g : Config) (t : Assignment) (x : Scratch) (w : Watches) (k : Clauses) (f : Members) : Type 0 where
  pub some : 1 ≤ g.vars
  pub vars : g.vars ≤ max_variables
  pub room : g.room ≤ max_clauses
  pub lit_room : g.lit_room ≤ max_literals
  pub values : length t.vars.values ≡ g.vars
  pub marks : length x.marks ≡ g.vars
  pub buffer : length x.buffer.cells ≡ 2 * g.vars
  pub stack : length x.stack.cells ≡ g.vars
  pub notes : length x.notes.cells ≡ g.vars
  pub lists : length w.lists ≡ 2 * g.vars
  pub blockers : length w.blockers ≡ 2 * g.room
  pub chains : Chains (2 * g.room) w.lists
  pub clauses : k.room ≡ g.room
  pub literals : k.lit_room ≡ g.lit_room
  pub flags : length f.flag_cells ≡ 2 * g.vars
  pub members : length f.item_cells ≡ g.vars + 1

-- of the blocks alone: so whatever stands beside them may change
abbrev pub Sized : declared.State → Type 0
Sized s = Sizes s.config s.trail s.scratch s.watches s.clauses s.finals

-- nothing is half done: no mark is set, no literal is pushed, no final clause is under way, and no node of a clause to come is listed
pub record Idle (s : declared.State) : Type 0 where
  pub marks : s.scratch.marks ≡ replicate s.config.vars 0
  pub final : s.finals.items ≡ []
  pub pushed : s.clauses.pushed ≡ []
  pub nodes : Under (2 * length s.clauses.clauses) s.watches.lists

-- the blocks hold a well-formed state, and nothing is half done
pub record Still (s : declared.State) : Type 0 where
  pub sized : Sized s
  pub idle : Idle s
  pub formed : WellFormed (config_of s.config) (state_at s)

-- and the state is t
pub record Has (s : declared.State) (t : State) : Type 0 where
  pub still : Still s
  pub state : state_at s ≡ t

-- of a still state each mark is 0 or 1
pub still_marks : (s : declared.State) → Still s → SoundMarks s.scratch.marks
still_marks s k = rw k.idle.marks (sound_none s.config.vars)

-- what a step of the search leaves of s in s': the configuration; marks, buffers and the final clause under way
pub record Beside (s s' : declared.State) : Type 0 where
  pub config : s'.config ≡ s.config
  pub scratch : s'.scratch ≡ s.scratch
  pub finals : s'.finals ≡ s.finals
