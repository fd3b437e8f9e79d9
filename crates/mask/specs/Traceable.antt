-- Which literals of a clause are redundant, in words of reasons alone: no marks, no stack, no turns, no mask.
use Rattle.std.specs.Prelude.{ℕ, ◌≡◌, ◌≢◌, ◌↔◌, List, get_or, drop}
use Rattle.model.specs.Lit.{no_reason}
use Rattle.model.specs.State.{Store, VarState, level_lit, reason_lit, reason_rest}
use Rattle.lawbase.specs.Basics.{◌∈◌}

-- q is traced through reasons to level 0 and the literals `ends` alone: it is at level 0, or one of them, or it has a reason, each other literal of
-- which is traced so
pub data Traced (st : Store) (vs : VarState) (ends : ℕ → Type 0) : ℕ → Type 0 where
  at_zero : {q : ℕ} → level_lit vs q ≡ 0 → Traced st vs ends q
  at_end : {q : ℕ} → ends q → Traced st vs ends q
  through : {q : ℕ} → reason_lit vs q ≢ no_reason → ((r : ℕ) → r ∈ reason_rest st vs q → Traced st vs ends r) → Traced st vs ends q

-- r is another literal of the clause than q
abbrev pub Other : List ℕ → ℕ → ℕ → Type 0
Other clause q r = (r ∈ clause) × (r ≢ q)

-- q can be traced through reasons to level 0 and other literals of the clause alone
abbrev pub Traceable : Store → VarState → List ℕ → ℕ → Type 0
Traceable st vs clause q = Traced st vs (Other clause q) q

-- of the clause `before` the first literal is kept, and of those behind it exactly those that cannot be traced
pub record Keeps (st : Store) (vs : VarState) (before after : List ℕ) : Type 0 where
  pub first : get_or after 0 0 ≡ get_or before 0 0
  pub others : (q : ℕ) → (q ∈ drop 1 after) ↔ ((q ∈ drop 1 before) × (Traceable st vs before q → ⊥))
