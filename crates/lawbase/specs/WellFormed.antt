-- What holds of the state between two steps of a run.
use Rattle.std.specs.Prelude.{◌≡◌, ◌≢◌, Bool, true, false, List, [], ◌∷◌, reverse, ℕ, ◌+◌, ◌*◌, ◌-◌, ◌≤◌, ◌<◌, length, get_or, drop, eqb}
use Rattle.model.specs.Lit.{var, sign, neg, no_reason, l_undef}
use Rattle.model.specs.Script.{Config}
use Rattle.model.specs.State.{Watch, Store, VarState, State, level_lit, reason_lit}
use Rattle.model.specs.Store.{stored_literals}
use Rattle.lawbase.specs.Basics.{◌∈◌, Every}

-- ---- the assignment

-- no variable twice
abbrev pub Distinct : List ℕ → Type 0
Distinct [] = Unit {0}
Distinct (l ∷ ls) = Every (λ m. var m ≢ var l) ls × Distinct ls

-- The literals of a reason behind the first are false, and were before p was set; `before` are the literals set before p, newest first.
pub record Implies (cs : List (List ℕ)) (r p : ℕ) (before : List ℕ) : Type 0 where
  pub stored : r < length cs
  pub first : get_or (get_or cs r []) 0 0 ≡ p
  pub false_rest : Every (λ q. neg q ∈ before) (drop 1 (get_or cs r []))

-- how the literal p, in its place on the trail, came to be set
pub data Ground (cs : List (List ℕ)) (vs : VarState) (p : ℕ) (before : List ℕ) : Type 0 where
  -- a unit taken or learnt
  fixed : reason_lit vs p ≡ no_reason → level_lit vs p ≡ 0 → Ground cs vs p before
  -- the decision that opens its level
  decided : reason_lit vs p ≡ no_reason → 0 < level_lit vs p → get_or vs.limits (level_lit vs p - 1) 0 ≡ length before → Ground cs vs p before
  -- the unit consequence of a stored clause
  implied : reason_lit vs p ≢ no_reason → Implies cs (reason_lit vs p) p before → Ground cs vs p before

-- a literal of the trail: in range, its variable not set before, its value right, and its level is the number of limits at or before its place
pub record Entry (n : ℕ) (cs : List (List ℕ)) (vs : VarState) (p : ℕ) (before : List ℕ) : Type 0 where
  pub range : p < 2 * n
  pub fresh : Every (λ q. var q ≢ var p) before
  pub valued : get_or vs.values (var p) 0 ≡ sign p
  pub level : level_lit vs p ≤ length vs.limits
  pub above : (k : ℕ) → k < level_lit vs p → get_or vs.limits k 0 ≤ length before
  pub below : (k : ℕ) → k < length vs.limits → get_or vs.limits k 0 ≤ length before → k < level_lit vs p
  pub grounds : Ground cs vs p before

-- a trail, newest literal first
abbrev pub Entries : ℕ → List (List ℕ) → VarState → List ℕ → Type 0
Entries n cs vs [] = Unit {0}
Entries n cs vs (p ∷ before) = Entry n cs vs p before × Entries n cs vs before

-- the assignment of n variables, over the stored clauses cs
pub record Assignment (n : ℕ) (cs : List (List ℕ)) (vs : VarState) : Type 0 where
  pub values : length vs.values ≡ n
  pub levels : length vs.levels ≡ n
  pub reasons : length vs.reasons ≡ n
  pub entries : Entries n cs vs (reverse vs.trail)
  -- a variable without a literal on the trail is unset
  pub unset : (v : ℕ) → v < n → Every (λ q. var q ≢ v) vs.trail → get_or vs.values v 0 ≡ l_undef
  pub limits : (k : ℕ) → k < length vs.limits → get_or vs.limits k 0 ≤ length vs.trail
  pub sorted : (j k : ℕ) → j ≤ k → k < length vs.limits → get_or vs.limits j 0 ≤ get_or vs.limits k 0

-- ---- the store

-- a stored clause of n variables: two literals or more, in range, no variable twice
pub record Proper (n : ℕ) (c : List ℕ) : Type 0 where
  pub two : 2 ≤ length c
  pub range : Every (λ l. l < 2 * n) c
  pub distinct : Distinct c

abbrev pub bit : Bool → ℕ
bit true = 1
bit false = 0

-- how often clause c stands in a watch list
abbrev pub times : ℕ → List Watch → ℕ
times c [] = 0
times c (w ∷ ws) = bit (eqb w.clause c) + times c ws

-- a watch is of a stored clause, and its blocker one of its literals
pub record Watches (cs : List (List ℕ)) (w : Watch) : Type 0 where
  pub stored : w.clause < length cs
  pub blocker : w.blocker ∈ (get_or cs w.clause [])

-- each clause stands once in the lists of its first two literals' negations, and in no other list
pub record Watched (n : ℕ) (cs : List (List ℕ)) (ws : List (List Watch)) : Type 0 where
  pub lists : length ws ≡ 2 * n
  pub known : (l : ℕ) → l < 2 * n → Every (Watches cs) (get_or ws l [])
  pub twice : (c l : ℕ) → c < length cs → l < 2 * n
      → times c (get_or ws l []) ≡ bit (eqb l (neg (get_or (get_or cs c []) 0 0))) + bit (eqb l (neg (get_or (get_or cs c []) 1 0)))

pub record Stored (cfg : Config) (st : Store) : Type 0 where
  pub clauses : length st.clauses ≤ cfg.max_clauses
  pub literals : stored_literals st.clauses ≤ cfg.max_literals
  pub proper : Every (Proper cfg.variables) st.clauses
  pub watched : Watched cfg.variables st.clauses st.watches

-- ---- the state

pub record WellFormed (cfg : Config) (s : State) : Type 0 where
  pub store : Stored cfg s.store
  pub vars : Assignment cfg.variables s.store.clauses s.vars
  pub phases : length s.phases ≡ cfg.variables
  pub signs : Every (λ x. x < 2) s.phases
  pub qhead : s.qhead ≤ length s.vars.trail
