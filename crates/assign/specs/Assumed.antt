-- The first levels are those of the assumptions: each is true there, and no other decision stands on them.
use Rattle.std.specs.Prelude.{◌≡◌, List, ℕ, suc, ◌-◌, ◌≤◌, ◌<◌, length}
use Rattle.std.proofs.Math.ListN.{get_or}
use Rattle.model.specs.Lit.{no_reason}
use Rattle.model.specs.State.{VarState, level_lit, reason_lit, decision_level}
use Rattle.lawbase.specs.Basics.{◌∈◌}

-- assumption k is true at level k + 1 or below
pub record Holds (vs : VarState) (p level : ℕ) : Type 0 where
  pub on : p ∈ vs.trail
  pub low : level_lit vs p ≤ level

pub record Assumed (assumptions : List ℕ) (vs : VarState) : Type 0 where
  pub true_at : (k : ℕ) → k < length assumptions → k < decision_level vs → Holds vs (get_or assumptions k 0) (suc k)
  pub decision : (p : ℕ) → p ∈ vs.trail → reason_lit vs p ≡ no_reason → 0 < level_lit vs p → level_lit vs p ≤ length assumptions
      → p ≡ get_or assumptions (level_lit vs p - 1) 0
