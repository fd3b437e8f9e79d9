-- Searches, one after the other, from any state of a search.
use Rattle.std.specs.Prelude.{List}
use Prim.Native.Nat.{ℕ}
use Rattle.model.specs.Script.{Config}
use Rattle.model.specs.State.{Solver}
use Rattle.model.specs.Search.{Searched}
use Rattle.sound.specs.Verdict.{Solving, Verdict}

-- what a search comes to
abbrev pub Ended : Config → List ℕ → List (List ℕ) → Searched → Type 0
Ended cfg ps taken r = Verdict cfg ps taken r.status r.solver.state

-- from any state of a search
abbrev pub Starts : Config → List ℕ → List (List ℕ) → (Solver → Searched) → Type 0
Starts cfg ps taken f = (x : Solver) (log : List (List ℕ)) → Solving cfg ps taken log x.state → Ended cfg ps taken (f x)
