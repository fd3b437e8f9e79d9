-- The trail in two parts: what stands on the levels up to k, and what stands above.
use Rattle.std.specs.Prelude.{List, reverse, ℕ, take, drop}
use Rattle.model.specs.State.{VarState}

-- both newest first
abbrev pub upper : VarState → ℕ → List ℕ
upper vs e = reverse (drop e vs.trail)

abbrev pub base : VarState → ℕ → List ℕ
base vs e = reverse (take e vs.trail)
