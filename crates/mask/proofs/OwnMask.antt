-- What is on a level of a clause passes the clause's own mask.
use Rattle.std.specs.Prelude.{◌≡◌, true, ℕ}
use mathlib.Core.List.{List}
use Rattle.model.specs.State.{VarState, level_lit}
use Rattle.model.specs.Minimise.{abstract_levels}
use Rattle.lawbase.specs.Basics.{◌∈◌}
use Rattle.mask.proofs.Bits.{passes, bit-passes, levels_in}

-- ---- the test of the mask

module _ (vs : VarState) where
  -- a literal on the level of a literal of the clause passes the clause's mask
  pub own_passes : {ls : List ℕ} (b q : ℕ) → b ∈ ls → level_lit vs b ≡ level_lit vs q → passes vs (abstract_levels vs 0 ls) q ≡ true
  own_passes {ls} b q i e = bit-passes vs (abstract_levels vs 0 ls) q (levels_in vs (level_lit vs q) 0 ls b i e)
