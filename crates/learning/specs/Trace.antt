-- `lit_redundant`: what is traced back.
use Rattle.std.specs.Prelude.{◌≡◌, ◌≢◌, ◌⊎◌, true, length, set}
use Rattle.std.specs.Prelude.{Option, None as none, Some as some}
use mathlib.Core.List.{List, ◌∷◌}
use Prim.Native.Nat.{ℕ, ◌<◌}
use Rattle.model.specs.Lit.{var, neg, no_reason}
use Rattle.model.specs.State.{Store, VarState, level_lit, reason_lit, reason_rest}
use Rattle.model.specs.Minimise.{is_seen, Tracing}
use Rattle.lawbase.specs.Basics.{◌∈◌, Every}
use Rattle.learning.specs.Marks.{seen_at}

-- a result that may be missing, and what holds of it if it is not
abbrev pub Ok : {A : Type 0} → (A → Type 0) → Option A → Type 0
Ok P none = Unit {0}
Ok P (some a) = P a

abbrev pub then : {A B : Type 0} → Option A → (A → Option B) → Option B
then o f = elim o [ none ↦ none | some a ↦ f a ]

-- ---- the branches, once

-- l is marked and pushed
abbrev pub put : ℕ → Tracing → Tracing
put l t = record { stack = l ∷ t.stack; seen = set t.seen (var l) 1 }

-- ---- what is traced

-- marked, or at level 0
abbrev pub Covered : VarState → List ℕ → List ℕ → Type 0
Covered vs m ls = Every (λ l. 0 < level_lit vs l → is_seen m l ≡ true) ls

-- a literal that can be traced: false, above level 0, with a reason; t is the trail, newest first
pub record Fit (vs : VarState) (t : List ℕ) (q : ℕ) : Type 0 where
  pub falsified : neg q ∈ t
  pub above : 0 < level_lit vs q
  pub caused : reason_lit vs q ≢ no_reason

-- the literals of q's reason are marked, or at level 0
pub record Done (st : Store) (vs : VarState) (m : List ℕ) (q : ℕ) : Type 0 where
  pub above : 0 < level_lit vs q
  pub caused : reason_lit vs q ≢ no_reason
  pub covered : Covered vs m (reason_rest st vs q)

abbrev pub Grows : List ℕ → List ℕ → Type 0
Grows m k = (v : ℕ) → seen_at m v ≡ true → seen_at k v ≡ true

-- what pushing the literals of a reason does
pub record Pushed (n : ℕ) (vs : VarState) (t ls : List ℕ) (a b : Tracing) : Type 0 where
  pub sized : length a.seen ≡ n → length b.seen ≡ n
  pub grows : Grows a.seen b.seen
  pub covers : Covered vs b.seen ls
  pub deeper : Every (λ q. q ∈ b.stack) a.stack
  pub new : (p : ℕ) → p ∈ t → is_seen b.seen p ≡ true → (is_seen a.seen p ≡ true) ⊎ (neg p ∈ b.stack)
  pub fit : Every (Fit vs t) a.stack → Every (Fit vs t) b.stack
