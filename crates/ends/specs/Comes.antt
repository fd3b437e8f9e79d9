-- What a turn of `search` comes to: the cases, each with what it changes.
use Rattle.std.specs.Prelude.{◌≡◌, ◌⊎◌, List, [], ℕ, suc, ◌≤◌, ◌<◌, length}
use Rattle.std.specs.Prelude.{None as none, Some as some}
use Rattle.model.specs.Script.{Config}
use Rattle.model.specs.State.{State, Solver, decision_level, with_state, with_activity}
use Rattle.model.specs.Trail.{cancel_until}
use Rattle.model.specs.Activity.{var_decay_activity}
use Rattle.model.specs.Propagate.{propagate}
use Rattle.model.specs.Analyze.{analyze}
use Rattle.model.specs.Decide.{decided, decide}
use Rattle.model.specs.Search.{TRUE, FALSE, UNDEF, NO_STORAGE, add_learnt_and_backtrack, Turn, goes_on, ends}
use Rattle.assign.specs.Searching.{Searching}
use Rattle.assign.specs.Decide.{Completed, Failed}
use Rattle.watching.specs.Decide.{Resting}
use Rattle.watching.specs.Result.{Rested, Clashed}
use Rattle.ends.specs.Fixed.{fixed}
use Rattle.ends.specs.Credit.{Ongoing, credit}
use Rattle.ends.specs.Learns.{Learns, Full}

-- ---- propagation

-- the levels are as they were, no literal of level 0 is lost, and no credit gained
pub record Propagates (cfg : Config) (s s' : State) : Type 0 where
  pub level : decision_level s'.vars ≡ decision_level s.vars
  pub fixes : fixed s.vars ≤ fixed s'.vars
  pub kept : credit cfg s' ≤ credit cfg s

-- no clause is false in s
pub record Rests (cfg : Config) (s₀ s : State) : Type 0 where
  pub propagates : propagate cfg.variables s₀ ≡ record { state = s; conflict = none }
  pub rested : Rested cfg s₀ s
  pub head : s.qhead ≡ length s.vars.trail

-- the clause confl is false in s
pub record Clashes (cfg : Config) (s₀ : State) (confl : ℕ) (s : State) : Type 0 where
  pub propagates : propagate cfg.variables s₀ ≡ record { state = s; conflict = some confl }
  pub clashed : Clashed cfg s₀ confl s

-- ---- the cases

-- no false clause, and neither restart nor budget stops the search
pub record Goes (cfg : Config) (nof budget a b : ℕ) (s₀ s : State) : Type 0 where
  pub rests : Rests cfg s₀ s
  pub searches : b < nof
  pub affords : a < budget

-- a level more
pub record Deepens (cfg : Config) (assumptions : List ℕ) (s s' : State) : Type 0 where
  pub ongoing : Ongoing cfg assumptions s'
  pub kept : credit cfg s' ≤ credit cfg s
  pub deeper : decision_level s.vars < decision_level s'.vars

-- a search of at most nof conflicts, of which it had b, in a solve that had a, from the state x
pub data Comes (cfg : Config) (assumptions : List ℕ) (budget nof a b : ℕ) (x : Solver) : Turn → Type 0 where
  conflict : (confl : ℕ) (s s' : State) → Clashes cfg x.state confl s → Learns cfg assumptions x.state s'
      → add_learnt_and_backtrack cfg s (analyze cfg (with_state x s) confl).clause (analyze cfg (with_state x s) confl).level ≡ some s'
      → Comes cfg assumptions budget nof a b x
      (goes_on (suc a) (suc b) (record { state = s'; activity = var_decay_activity (analyze cfg (with_state x s) confl).activity }))
  decision : (s s' : State) → Goes cfg nof budget a b x.state s → decide x.activity.activities assumptions s ≡ decided s'
      → Deepens cfg assumptions x.state s' → Comes cfg assumptions budget nof a b x (goes_on a b (with_state x s'))
  -- a false clause at level 0
  refuted : (confl : ℕ) (s : State) → Clashes cfg x.state confl s → Searching cfg assumptions s → decision_level x.state.vars ≡ 0
      → Comes cfg assumptions budget nof a b x (ends (record { solver = with_state x s; conflicts = suc a; status = FALSE [] }))
  full : (confl : ℕ) (s : State) → Clashes cfg x.state confl s → Searching cfg assumptions s → 0 < decision_level x.state.vars
      → Full cfg s.store (analyze cfg (with_state x s) confl).clause
      → Comes cfg assumptions budget nof a b x
      (ends (record { solver = with_activity (with_state x s) (analyze cfg (with_state x s) confl).activity; conflicts = suc a; status = NO_STORAGE }))
  stopped : (s : State) → Rests cfg x.state s → Ongoing cfg assumptions s → (nof ≤ b) ⊎ (budget ≤ a) → Comes cfg assumptions budget nof a b x
      (ends (record { solver = with_state x (cancel_until cfg.phase s 0); conflicts = a; status = UNDEF }))
  completed : (s s' : State) → Goes cfg nof budget a b x.state s → Resting cfg s' → Completed cfg assumptions s s' → credit cfg s' ≤ credit cfg x.state
      → Comes cfg assumptions budget nof a b x (ends (record { solver = with_state x s'; conflicts = a; status = TRUE }))
  falsified : (s s' : State) (final : List ℕ) → Goes cfg nof budget a b x.state s → Resting cfg s' → Failed cfg assumptions s s' final
      → credit cfg s' ≤ credit cfg x.state
      → Comes cfg assumptions budget nof a b x (ends (record { solver = with_state x s'; conflicts = a; status = FALSE final }))
