-- Two watched literals: where one of a clause's first two literals is false and its negation propagated, the clause has a true literal of no higher level.
use Rattle.std.specs.Prelude.{◌≡◌, ◌≢◌, List, [], ℕ, ◌≤◌, ◌<◌, length, get_or, drop, take}
use Rattle.model.specs.Lit.{neg, no_reason}
use Rattle.model.specs.State.{VarState, level_lit, reason_lit}
use Rattle.lawbase.specs.Basics.{◌∈◌}

-- a true literal of clause c, of level d or below
pub record Witness (vs : VarState) (c : List ℕ) (d : ℕ) : Type 0 where
  pub literal : ℕ
  pub member : literal ∈ c
  pub set : literal ∈ vs.trail
  pub low : level_lit vs literal ≤ d

-- `done r l`: l is propagated, as far as clause r goes
pub record Covered (cs : List (List ℕ)) (vs : VarState) (done : ℕ → ℕ → Type 0) : Type 0 where
  pub cover : (r : ℕ) → r < length cs → (w : ℕ) → w ∈ take 2 (get_or cs r []) → done r (neg w) → Witness vs (get_or cs r []) (level_lit vs w)

-- another literal of p's level, in p's reason
pub record Tie (cs : List (List ℕ)) (vs : VarState) (p : ℕ) : Type 0 where
  pub literal : ℕ
  pub member : literal ∈ drop 1 (get_or cs (reason_lit vs p) [])
  pub set : neg literal ∈ vs.trail
  pub level : level_lit vs literal ≡ level_lit vs p

-- a literal that is implied has one
abbrev pub Tied : List (List ℕ) → VarState → ℕ → Type 0
Tied cs vs p = reason_lit vs p ≢ no_reason → Tie cs vs p

-- the literals set stay so, with their levels
pub record Grown (vs vs' : VarState) : Type 0 where
  pub on : (x : ℕ) → x ∈ vs.trail → x ∈ vs'.trail
  pub level : (x : ℕ) → x ∈ vs.trail → level_lit vs' x ≡ level_lit vs x
  pub reason : (x : ℕ) → x ∈ vs.trail → reason_lit vs' x ≡ reason_lit vs x
