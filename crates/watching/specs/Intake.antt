-- Rule 1: a clause is taken as a set of unset literals of different variables, or dropped; taking one keeps the clauses covered.
use Rattle.std.specs.Prelude.{◌≡◌, ◌⊎◌, ℕ}
use Rattle.std.proofs.Math.Bool.{true, false}
use mathlib.Core.List.{List, [], ◌∷◌}
use Rattle.std.specs.Prelude.{Option, None as none, Some as some}
use Rattle.model.specs.Lit.{neg, no_reason, is_true, is_false}
use Rattle.model.specs.Script.{Config}
use Rattle.model.specs.State.{State, with_ok, with_store, with_vars}
use Rattle.model.specs.Store.{has_room, attach_clause}
use Rattle.model.specs.Trail.{unchecked_enqueue}
use Rattle.model.specs.Intake.{Taken}
use Rattle.lawbase.specs.Basics.{◌∈◌, Every}
use Rattle.lawbase.specs.WellFormed.{Distinct}
use Rattle.watching.specs.Simplify.{Valueless}

-- what is left of clause c: unset literals of different variables; the others are false
pub record Residue (values c k : List ℕ) : Type 0 where
  pub unset : Every (Valueless values) k
  pub distinct : Distinct k
  pub among : Every (λ x. x ∈ c) k
  pub gone : Every (λ x. (x ∈ k) ⊎ (is_false values x ≡ true)) c

pub data Reduced (values c : List ℕ) : Option (List ℕ) → Type 0 where
  -- it is dropped: a literal of it is true, or it holds both signs of one
  void : (x : ℕ) → x ∈ c → (is_true values x ≡ true) ⊎ (neg x ∈ c) → Reduced values c none
  left : (k : List ℕ) → Residue values c k → Reduced values c (some k)

-- ---- the cases of `add_clause`

pub data Intaken (cfg : Config) (s : State) (c : List ℕ) : Taken → Type 0 where
  -- no model, known before
  closed : s.ok ≡ false → Intaken cfg s c (record { state = s; answer = 0 })
  dropped_clause : s.ok ≡ true → (x : ℕ) → x ∈ c → (is_true s.vars.values x ≡ true) ⊎ (neg x ∈ c) → Intaken cfg s c (record { state = s; answer = 1 })
  -- no literal is left
  emptied : s.ok ≡ true → Residue s.vars.values c [] → Intaken cfg s c (record { state = with_ok s false; answer = 0 })
  unit_left : s.ok ≡ true → (l : ℕ) → Residue s.vars.values c (l ∷ [])
      → Intaken cfg s c (record { state = with_vars s (unchecked_enqueue s.vars l no_reason); answer = 1 })
  stored_clause : s.ok ≡ true → (a b : ℕ) (more : List ℕ) → Residue s.vars.values c (a ∷ b ∷ more) → has_room cfg s.store (a ∷ b ∷ more) ≡ true
      → Intaken cfg s c (record { state = with_store s (attach_clause s.store (a ∷ b ∷ more)); answer = 1 })
  no_storage : s.ok ≡ true → (a b : ℕ) (more : List ℕ) → Residue s.vars.values c (a ∷ b ∷ more) → has_room cfg s.store (a ∷ b ∷ more) ≡ false
      → Intaken cfg s c (record { state = s; answer = 2 })
