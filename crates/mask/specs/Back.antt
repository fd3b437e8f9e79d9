-- What a trace finds and what can be traced are the same, where the mask lets pass what can be traced.
use Rattle.std.specs.Prelude.{◌≢◌}
use mathlib.Core.List.{List}
use Prim.Native.Nat.{ℕ}
use Rattle.model.specs.Lit.{no_reason}
use Rattle.model.specs.State.{Store, VarState, reason_lit, reason_rest}
use Rattle.lawbase.specs.Basics.{◌∈◌, Every}
use Rattle.mask.specs.Traceable.{Traced}

-- ---- literals that can be traced

-- a literal of the clause that can be traced has a reason, whose literals are traced to the clause
pub record Rests (st : Store) (vs : VarState) (clause : List ℕ) (q : ℕ) : Type 0 where
  pub caused : reason_lit vs q ≢ no_reason
  pub traced : Every (Traced st vs (λ r. r ∈ clause)) (reason_rest st vs q)
