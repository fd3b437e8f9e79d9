-- The state between two steps: plain lists of numbers, and the activities.
use Rattle.std.specs.Prelude.{ℕ, ◌*◌, Bool, true, List, [], length, get_or, drop, replicate, Float}
use Rattle.std.specs.Float.{binary64}
use Rattle.std.specs.Float.Ieee.{of_bits}
use Rattle.model.specs.Lit.{var, no_reason, l_undef}

-- A clause in a watch list: its index, and its blocker, a literal that makes a look at the clause needless while it is true.
pub record Watch : Type 0 where
  pub clause : ℕ
  pub blocker : ℕ

-- The stored clauses, learnt ones too, in order of storing. `watches` has by literal the clauses to look at when it becomes true.
pub record Store : Type 0 where
  pub clauses : List (List ℕ)
  pub watches : List (List Watch)

-- The assignment: by variable its value, the level and the reason (a clause's index) of its last one; `limits` has where on the trail each level starts.
pub record VarState : Type 0 where
  pub values : List ℕ
  pub levels : List ℕ
  pub reasons : List ℕ
  pub trail : List ℕ
  pub limits : List ℕ

pub record Activity : Type 0 where
  pub activities : List Float
  pub increment : Float

-- All but the activities. `ok` is false once the clauses are known to have no model, `phases` has by variable the sign of its next decision, and the
-- trail is propagated up to `qhead`.
pub record State : Type 0 where
  pub ok : Bool
  pub store : Store
  pub vars : VarState
  pub phases : List ℕ
  pub qhead : ℕ

pub record Solver : Type 0 where
  pub state : State
  pub activity : Activity

-- antt has no float literals: 0.0 and 1.0 by their bits
abbrev pub f64_zero : Float
f64_zero = of_bits binary64 0

abbrev pub f64_one : Float
f64_one = of_bits binary64 0x3ff0_0000_0000_0000

-- n variables, no clauses
unfoldable pub initial_state : ℕ → State
initial_state n =
    record {
      ok = true;
      store = record { clauses = []; watches = replicate (2 * n) [] };
      vars = record { values = replicate n l_undef; levels = replicate n 0; reasons = replicate n no_reason; trail = []; limits = [] };
      phases = replicate n 1;
      qhead = 0;
    }

unfoldable pub initial_activity : ℕ → Activity
initial_activity n = record { activities = replicate n f64_zero; increment = f64_one }

unfoldable pub initial : ℕ → Solver
initial n = record { state = initial_state n; activity = initial_activity n }

-- ---- reading

abbrev pub decision_level : VarState → ℕ
decision_level vs = length vs.limits

abbrev pub level_lit : VarState → ℕ → ℕ
level_lit vs l = get_or vs.levels (var l) 0

abbrev pub reason_lit : VarState → ℕ → ℕ
reason_lit vs l = get_or vs.reasons (var l) 0

abbrev pub clause_at : Store → ℕ → List ℕ
clause_at st c = get_or st.clauses c []

-- the literals of l's reason, from the second one on
abbrev pub reason_rest : Store → VarState → ℕ → List ℕ
reason_rest st vs l = drop 1 (clause_at st (reason_lit vs l))

-- ---- one field set

abbrev pub with_ok : State → Bool → State
with_ok s b = record { ok = b; store = s.store; vars = s.vars; phases = s.phases; qhead = s.qhead }

abbrev pub with_store : State → Store → State
with_store s st = record { ok = s.ok; store = st; vars = s.vars; phases = s.phases; qhead = s.qhead }

abbrev pub with_clauses : State → List (List ℕ) → State
with_clauses s cs = with_store s (record { clauses = cs; watches = s.store.watches })

abbrev pub with_watches : State → List (List Watch) → State
with_watches s ws = with_store s (record { clauses = s.store.clauses; watches = ws })

abbrev pub with_vars : State → VarState → State
with_vars s vs = record { ok = s.ok; store = s.store; vars = vs; phases = s.phases; qhead = s.qhead }

abbrev pub with_qhead : State → ℕ → State
with_qhead s q = record { ok = s.ok; store = s.store; vars = s.vars; phases = s.phases; qhead = q }

abbrev pub with_state : Solver → State → Solver
with_state x s = record { state = s; activity = x.activity }

abbrev pub with_activity : Solver → Activity → Solver
with_activity x a = record { state = x.state; activity = a }
