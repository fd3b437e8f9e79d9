-- `join`: what holds of the resolvent so far, over the part of the trail that is left, and that joining a false clause keeps it.
use Rattle.std.specs.Prelude.{◌≡◌, ◌≢◌, ◌⊎◌, true, ℕ, suc, ◌≤◌, ◌<◌, length, set}
use mathlib.Core.List.{List, [], ◌∷◌, ◌++◌}
use Rattle.model.specs.Lit.{var, neg}
use Rattle.model.specs.State.{VarState, decision_level, level_lit}
use Rattle.model.specs.Minimise.{is_seen}
use Rattle.model.specs.Activity.{var_bump_activity}
use Rattle.model.specs.Analyze.{Resolvent}
use Rattle.lawbase.specs.Basics.{◌∈◌, Every}
use Rattle.lawbase.specs.WellFormed.{Distinct}
use Rattle.learning.specs.Marks.{seen_at, Cells}
use Rattle.learning.specs.Count.{tops}

-- ---- the branches, once

-- q joins, on the conflict's level
abbrev pub counted : VarState → ℕ → Resolvent → Resolvent
counted vs q r =
    record { seen = set r.seen (var q) 1; path = suc r.path; learnt = r.learnt; activity = var_bump_activity r.activity (var q) }

-- q joins, below it
abbrev pub noted : VarState → ℕ → Resolvent → Resolvent
noted vs q r =
    record { seen = set r.seen (var q) 1; path = r.path; learnt = r.learnt ++ (q ∷ []); activity = var_bump_activity r.activity (var q) }

-- ---- what holds

-- a literal of `learnt`
pub record Out (vs : VarState) (t seen : List ℕ) (q : ℕ) : Type 0 where
  pub falsified : neg q ∈ t
  pub marked : is_seen seen q ≡ true
  pub above : 0 < level_lit vs q
  pub below : level_lit vs q < decision_level vs

-- n variables; t is the part of the trail that is left, newest first
pub record Inv (n : ℕ) (vs : VarState) (t : List ℕ) (r : Resolvent) : Type 0 where
  pub sized : length r.seen ≡ n
  pub cells : Cells r.seen
  pub counts : r.path ≡ tops vs r.seen t
  pub lower : (q : ℕ) → neg q ∈ t → is_seen r.seen q ≡ true → level_lit vs q ≢ decision_level vs → q ∈ r.learnt
  pub outs : Every (Out vs t r.seen) r.learnt
  pub distinct : Distinct r.learnt
  pub known : (v : ℕ) → seen_at r.seen v ≡ true → (p : ℕ) × (p ∈ t) × (var p ≡ v)

-- what joining qs to r does to it
pub record Grew (vs : VarState) (qs : List ℕ) (r k : Resolvent) : Type 0 where
  pub keeps : (v : ℕ) → seen_at r.seen v ≡ true → seen_at k.seen v ≡ true
  pub more : r.path ≤ k.path
  pub covers : Every (λ q. 0 < level_lit vs q → is_seen k.seen q ≡ true) qs
  pub new : (v : ℕ) → seen_at k.seen v ≡ true → (seen_at r.seen v ≡ true) ⊎ ((q : ℕ) × (q ∈ qs) × (var q ≡ v) × (0 < level_lit vs q))
