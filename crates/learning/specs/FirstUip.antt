-- Rule 3 as published: from the false clause, resolve with the reasons of the conflict level's literals, from the newest back, until one literal of
-- that level is left. A clause is a list of literals here, whatever their order; literals of level 0 are left out.
use Rattle.std.specs.Prelude.{◌≡◌, ◌≢◌, ◌⊎◌, Bool, true, List, ◌∷◌, ◌++◌, reverse, ℕ, ◌<◌}
use Rattle.model.specs.Lit.{neg, no_reason}
use Rattle.model.specs.State.{Store, VarState, decision_level, level_lit, reason_lit, clause_at, reason_rest}
use Rattle.lawbase.specs.Basics.{◌∈◌, Every}
use Rattle.lawbase.specs.Sem.{Respects, Closed}
use Rattle.lawbase.specs.WellFormed.{Distinct, Implies, Assignment}

-- Clause `confl` is false on the trail, above level 0, with a literal of the trail's last level. n variables.
pub record Conflict (n : ℕ) (st : Store) (vs : VarState) (confl : ℕ) : Type 0 where
  pub assignment : Assignment n st.clauses vs
  pub falsified : Every (λ q. neg q ∈ vs.trail) (clause_at st confl)
  pub deep : 0 < decision_level vs
  pub top : (q : ℕ) × (q ∈ clause_at st confl) × (level_lit vs q ≡ decision_level vs)

-- two literals of the conflict's level, or more
pub record Two (vs : VarState) (C : List ℕ) : Type 0 where
  pub one : ℕ
  pub other : ℕ
  pub one_in : one ∈ C
  pub other_in : other ∈ C
  pub differ : one ≢ other
  pub one_top : level_lit vs one ≡ decision_level vs
  pub other_top : level_lit vs other ≡ decision_level vs

-- p made the clause false: of the literals that falsify it, p is the newest on the trail; `older` were set before it
pub record Newest (vs : VarState) (C : List ℕ) (p : ℕ) : Type 0 where
  pub newer : List ℕ
  pub older : List ℕ
  pub trail : reverse vs.trail ≡ newer ++ (p ∷ older)
  pub member : neg p ∈ C
  pub others : Every (λ q. q ≢ neg p → neg q ∈ older) C

-- D has the literals of C but neg p, and those above level 0 of p's reason but p
pub record Resolved (st : Store) (vs : VarState) (C : List ℕ) (p : ℕ) (D : List ℕ) : Type 0 where
  pub kept : Every (λ q. q ≢ neg p → q ∈ D) C
  pub added : Every (λ q. 0 < level_lit vs q → q ∈ D) (reason_rest st vs p)
  pub only : Every (λ q. ((q ∈ C) × (q ≢ neg p)) ⊎ ((q ∈ reason_rest st vs p) × (0 < level_lit vs q))) D

-- The clauses on the way. A step is made only while two literals of the level are left, and it reads a stored clause, whose first literal is p.
pub data Resolves (st : Store) (vs : VarState) (confl : ℕ) : List ℕ → Type 0 where
  start : {C : List ℕ} → Every (λ q. 0 < level_lit vs q → q ∈ C) (clause_at st confl)
      → Every (λ q. (q ∈ clause_at st confl) × (0 < level_lit vs q)) C → Resolves st vs confl C
  step : {C D : List ℕ} {p : ℕ} → Resolves st vs confl C → Two vs C → (new : Newest vs C p) → level_lit vs p ≡ decision_level vs
      → reason_lit vs p ≢ no_reason → Implies st.clauses (reason_lit vs p) p new.older → Resolved st vs C p D → Resolves st vs confl D

-- L is the clause at the first UIP: of its literals only the first is of the conflict's level, and the others are of levels below it, above 0.
pub record FirstUip (st : Store) (vs : VarState) (confl : ℕ) (L : List ℕ) : Type 0 where
  pub uip : ℕ
  pub rest : List ℕ
  pub learnt : L ≡ neg uip ∷ rest
  pub resolvent : List ℕ
  pub resolves : Resolves st vs confl resolvent
  pub all : Every (λ q. q ∈ L) resolvent
  pub only : Every (λ q. q ∈ resolvent) L
  pub newest : Newest vs resolvent uip
  pub uip_top : level_lit vs uip ≡ decision_level vs
  pub falsified : Every (λ q. neg q ∈ vs.trail) L
  pub above : Every (λ q. 0 < level_lit vs q) rest
  pub below : Every (λ q. level_lit vs q < decision_level vs) rest
  pub distinct : Distinct L

-- ---- soundness: a set that respects the stored clauses, and holds level 0, falsifies none of these clauses

pub record Knows (S : ℕ → Bool) (st : Store) (vs : VarState) : Type 0 where
  pub stored : Every (Respects S) st.clauses
  pub fixed : Every (λ p. level_lit vs p ≡ 0 → S p ≡ true) vs.trail

-- every set that is closed over F does
abbrev pub Known : List (List ℕ) → Store → VarState → Type 0
Known F st vs = (S : ℕ → Bool) → Closed S F → Knows S st vs

-- S falsifies all of a clause
abbrev pub Refutes : (ℕ → Bool) → List ℕ → Type 0
Refutes S C = Every (λ q. S (neg q) ≡ true) C
