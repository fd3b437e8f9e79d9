-- What a solver holds of the definition's, and how a turn, a search and a solve leave it.
use Rattle.std.specs.Prelude.{ℕ, ◌*◌, ◌≤◌, ◌<◌, ◌≡◌, List, length, Option, None as none, Some as some}
use Rattle.model.specs.State as ms
use Rattle.model.specs.State.{decision_level}
use Rattle.model.specs.Decide.{Decision, decided, complete, failed}
use Rattle.model.specs.Search as model
use Rattle.lawbase.specs.Basics.{Every}
use Rattle.learning.specs.FirstUip.{Conflict}
use Rattle.ends.specs.Credit.{Ongoing}
use Rattle.state.specs.declared.Config.{Config}
use Rattle.state.specs.declared.State.{State}
use Rattle.state.specs.Still.{Still, state_at, config_of}
use Rattle.decide.specs.Deciding.{Ended as Refuted}
use Rattle.search.specs.declared.Solver.{Solver}
use Rattle.search.specs.declared.Status.{Status}
use Rattle.search.specs.declared.Conflicts.{Conflicts}
use Rattle.search.specs.declared.Searched.{Searched}

-- ---- the definition's values

abbrev pub solver_at : Solver → ms.Solver
solver_at x = record { state = state_at x.state; activity = x.activity }

-- the final clause of FALSE is the state's
abbrev pub status_of : Status → State → model.Status
status_of Status.True s = model.TRUE
status_of Status.False s = model.FALSE s.finals.items
status_of Status.Undef s = model.UNDEF
status_of Status.NoStorage s = model.NO_STORAGE

abbrev pub searched_of : Solver → Searched → model.Searched
searched_of x r = record { solver = solver_at x; conflicts = r.conflicts; status = status_of r.status x.state }

abbrev pub turn_of : Solver → Conflicts → Option Status → model.Turn
turn_of x n none = model.goes_on n.solve n.search (solver_at x)
turn_of x n (some t) = model.ends (record { solver = solver_at x; conflicts = n.solve; status = status_of t x.state })

-- ---- the next decision

abbrev pub on_decision : ℕ → ℕ → ms.Solver → Decision → model.Turn
on_decision a b x (decided s) = model.goes_on a b (ms.with_state x s)
on_decision a b x (complete s) = model.ends (record { solver = ms.with_state x s; conflicts = a; status = model.TRUE })
on_decision a b x (failed s final') = model.ends (record { solver = ms.with_state x s; conflicts = a; status = model.FALSE final' })

-- ---- before

-- clause confl is false; above level 0, it can be analysed
pub record Conflicting (x : Solver) (confl : ℕ) : Type 0 where
  pub still : Still x.state
  pub conflict : 0 < decision_level x.state.trail.vars → Conflict x.state.config.vars (state_at x.state).store x.state.trail.vars confl
  pub sized : length x.activity.activities ≡ x.state.config.vars

-- literals that a solve may assume
pub record Assumable (g : Config) (ps : List ℕ) : Type 0 where
  pub count : length ps ≤ 2 * g.vars
  pub range : Every (λ p. p < 2 * g.vars) ps

-- a search under assumptions may take a turn from here
pub record Running (ps : List ℕ) (x : Solver) : Type 0 where
  pub still : Still x.state
  pub ongoing : Ongoing (config_of x.state.config) ps (state_at x.state)
  pub counted : length x.activity.activities ≡ x.state.config.vars
  pub assumable : Assumable x.state.config ps

-- ---- after

-- a final clause is left only by FALSE
abbrev pub Left : Status → State → Type 0
Left Status.True s = Still s
Left Status.False s = Refuted s
Left Status.Undef s = Still s
Left Status.NoStorage s = Still s

pub still_refuted : {s : State} → Still s → Refuted s
still_refuted k = record { sized = k.sized; marks = k.idle.marks; pushed = k.idle.pushed; nodes = k.idle.nodes; formed = k.formed }

pub left_refuted : {s : State} (t : Status) → Left t s → Refuted s
left_refuted Status.True l = still_refuted l
left_refuted Status.False l = l
left_refuted Status.Undef l = still_refuted l
left_refuted Status.NoStorage l = still_refuted l

abbrev pub LeftBy : Option Status → State → Type 0
LeftBy none s = Still s
LeftBy (some t) s = Left t s

-- the configuration stays, and each variable keeps an activity
pub record Kept (x x' : Solver) : Type 0 where
  pub config : x'.state.config ≡ x.state.config
  pub counted : length x'.activity.activities ≡ length x.activity.activities

-- the solver x' is as the definition's turn m has it
pub record Turned (m : model.Turn) (x x' : Solver) (n : Conflicts) (r : Option Status) : Type 0 where
  pub is : turn_of x' n r ≡ m
  pub left : LeftBy r x'.state
  pub kept : Kept x x'

-- the solver x' is as the definition's end m of a search has it
pub record Ended (m : model.Searched) (x x' : Solver) (r : Searched) : Type 0 where
  pub is : searched_of x' r ≡ m
  pub left : Left r.status x'.state
  pub kept : Kept x x'
