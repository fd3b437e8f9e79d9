-- The proved table: the cases P1 to P12 of document 01, one statement over the definitions, proved by running them.
use Rattle.std.specs.Prelude.{ℕ, ◌≡◌, refl, List, [], ◌∷◌, map}
use Rattle.model.specs.Lit.{neg, no_reason, abstract_level}
use Rattle.model.specs.Luby.{luby}
use Rattle.model.specs.Script.{Config}
use Rattle.model.specs.State.{State, initial_state, with_vars}
use Rattle.model.specs.Trail.{unchecked_enqueue}
use Rattle.model.specs.Intake.{Taken, add_clause}
use Rattle.model.specs.Exec.{out}

-- where a case gives nothing else: C 8, L 64, mode 2, phase 2, unit 100, and V 2
abbrev pub script : ℕ → List ℕ → List ℕ
script v cells = v ∷ 8 ∷ 64 ∷ 2 ∷ 2 ∷ 100 ∷ cells

abbrev pub cfg : Config
cfg = record { variables = 2; max_clauses = 8; max_literals = 64; mode = 2; phase = 2; unit = 100 }

-- the first clause of a run
pub first : List ℕ → Taken
unfolding out
first c = add_clause cfg (initial_state 2) c

pub with_unit_0 : State
unfolding out
with_unit_0 = with_vars (initial_state 2) (unchecked_enqueue (initial_state 2).vars 0 no_reason)

pub record Table : Type 0 where
  pub p1 : neg 7 ≡ 6
  pub p2 : first (0 ∷ 1 ∷ []) ≡ record { state = initial_state 2; answer = 1 }
  pub p3 : out (script 2 (1 ∷ 0 ∷ 2 ∷ 0 ∷ 1 ∷ 2 ∷ 1 ∷ 2 ∷ 1 ∷ [])) ≡ 0 ∷ 1 ∷ 0 ∷ 0 ∷ 1 ∷ 0 ∷ 0 ∷ []
  pub p4 : first (0 ∷ 0 ∷ []) ≡ record { state = with_unit_0; answer = 1 }
  pub p5 : out (script 2 (1 ∷ 1 ∷ 0 ∷ 1 ∷ 1 ∷ 1 ∷ [])) ≡ 1 ∷ 0 ∷ []
  pub p6 : out (script 1 (2 ∷ 0 ∷ 0 ∷ [])) ≡ 2 ∷ 0 ∷ 1 ∷ 1 ∷ []
  pub p7 : out (script 1 (2 ∷ 0 ∷ 1 ∷ [])) ≡ 0 ∷ 0 ∷ 1 ∷ 1 ∷ []
  pub p8 : out (script 2 (1 ∷ 2 ∷ 0 ∷ 2 ∷ 1 ∷ 2 ∷ 0 ∷ 3 ∷ 1 ∷ 1 ∷ 1 ∷ 2 ∷ 0 ∷ 0 ∷ [])) ≡ 1 ∷ 1 ∷ 1 ∷ 1 ∷ 1 ∷ 0 ∷ []
  pub p9 : out (script 1 (2 ∷ 2 ∷ 0 ∷ 1 ∷ 1 ∷ [])) ≡ 1 ∷ 0 ∷ 2 ∷ 0 ∷ 1 ∷ []
  pub p10 : out (script 1 (2 ∷ 2 ∷ 1 ∷ 0 ∷ 1 ∷ [])) ≡ 1 ∷ 0 ∷ 2 ∷ 1 ∷ 0 ∷ []
  pub p11 : map abstract_level (1 ∷ 33 ∷ []) ≡ 2 ∷ 2 ∷ []
  pub p12 : map luby (0 ∷ 1 ∷ 2 ∷ 3 ∷ 4 ∷ 5 ∷ 6 ∷ []) ≡ 1 ∷ 1 ∷ 2 ∷ 1 ∷ 1 ∷ 2 ∷ 4 ∷ []

pub table : Table
unfolding out first with_unit_0
table =
    record {
      p1 = refl;
      p2 = refl;
      p3 = refl;
      p4 = refl;
      p5 = refl;
      p6 = refl;
      p7 = refl;
      p8 = refl;
      p9 = refl;
      p10 = refl;
      p11 = refl;
      p12 = refl;
    }
