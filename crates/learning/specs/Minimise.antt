-- Rule 4: `minimize_conflict` drops literals that follow from the others, and keeps the order of the rest.
use Rattle.std.specs.Prelude.{ℕ, ◌<◌}
use mathlib.Core.List.{List, [], ◌∷◌}
use Rattle.model.specs.Lit.{neg}
use Rattle.model.specs.State.{Store, VarState, level_lit}
use Rattle.lawbase.specs.Basics.{◌∈◌, Every}
use Rattle.lawbase.specs.WellFormed.{Assignment}
use Rattle.learning.specs.Marks.{MarksOf}

-- K has some of the literals of L, in the same order
pub data Sub : List ℕ → List ℕ → Type 0 where
  end : Sub [] []
  keep : {q : ℕ} {K L : List ℕ} → Sub K L → Sub (q ∷ K) (q ∷ L)
  skip : {q : ℕ} {K L : List ℕ} → Sub K L → Sub K (q ∷ L)

-- ---- the law

-- what is asked of the clause behind the UIP, and of the marks
pub record Minimisable (n : ℕ) (st : Store) (vs : VarState) (ls seen : List ℕ) : Type 0 where
  pub assignment : Assignment n st.clauses vs
  pub falsified : Every (λ q. neg q ∈ vs.trail) ls
  pub above : Every (λ q. 0 < level_lit vs q) ls
  pub marks : MarksOf n seen ls
