-- `resolve`, back along the trail, makes the clauses of the published rule and stops at the first UIP.
use Rattle.std.specs.Prelude.{◌≡◌, true, false, List, [], ◌∷◌, ℕ, drop}
use Rattle.model.specs.Lit.{neg}
use Rattle.model.specs.State.{Store, VarState}
use Rattle.model.specs.Minimise.{is_seen}
use Rattle.model.specs.Analyze.{Resolvent}
use Rattle.lawbase.specs.Basics.{◌∈◌}
use Rattle.learning.specs.Marks.{MarksOf}
use Rattle.learning.specs.FirstUip.{FirstUip}

-- the resolvent as a clause: the negations of what is seen on the part of the trail that is left
unfoldable pub clause_of : List ℕ → List ℕ → List ℕ
clause_of seen [] = []
clause_of seen (p ∷ t) = elim (is_seen seen p) [ true ↦ neg p ∷ clause_of seen t | false ↦ clause_of seen t ]

abbrev pub Within : List ℕ → List ℕ → ℕ → Type 0
Within m t q = (neg q ∈ t) × (is_seen m q ≡ true)

-- ---- the end

pub record Stop (n : ℕ) (st : Store) (vs : VarState) (confl : ℕ) (k : Resolvent) : Type 0 where
  pub first : FirstUip st vs confl k.learnt
  pub marks : MarksOf n k.seen (drop 1 k.learnt)
