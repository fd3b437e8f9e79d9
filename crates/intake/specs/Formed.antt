-- A clause taken at level 0 leaves a well-formed state.
use Rattle.std.specs.Prelude.{◌≡◌, refl, false, List, [], ◌∷◌, ℕ, ◌*◌, ◌≤◌, ◌<◌}
use Rattle.std.proofs.Common.{sym, subst, arith}
use mathlib.Core.List.Memᴰ.{head as here}
use Rattle.std.specs.Prelude.{Option, Some as some}
use Rattle.model.specs.Lit.{undef_lit, no_reason}
use Rattle.model.specs.Script.{Config}
use Rattle.model.specs.State.{State, decision_level}
use Rattle.model.specs.Store.{attach_clause}
use Rattle.model.specs.Trail.{unchecked_enqueue}
use Rattle.model.specs.Intake.{Taken, add_clause}
use Rattle.lawbase.specs.Basics.{Every}
use Rattle.lawbase.specs.WellFormed.{WellFormed, Assignment, Proper}
use Rattle.assign.specs.Reading.{Unset}
use Rattle.assign.proofs.Reading.{unset_of}
use Rattle.assign.proofs.Enqueue.{enqueue_fixed, enqueue_length}
use Rattle.assign.proofs.Clauses.{clauses_more}
use Rattle.assign.proofs.Searching.{ok_formed, vars_formed, store_formed}
use Rattle.watching.proofs.Attach.{attach_stored, attach_clauses}
use Rattle.watching.specs.Intake.{Residue, Reduced, void, left, Intaken, closed, dropped_clause, emptied, unit_left, stored_clause, no_storage}
use Rattle.watching.proofs.Intake.{intaken}

-- what is left, where something is
pub residue_of : {values c k : List ℕ} {o : Option (List ℕ)} → Reduced values c o → o ≡ some k → Residue values c k
residue_of (void x i w) e = absurd (let z : ◌≡◌ {A = ℕ} 0 1 = cc in omega arith)
residue_of {values} {c} {k} (left l r) e = let z : l ≡ k = cc in subst (λ (m : List ℕ). Residue values c m) z r

module _ {cfg : Config} {s : State} (w : WellFormed cfg s) (c : List ℕ) (range : Every (λ x. x < 2 * cfg.variables) c) where
  pub left_unset : {k : List ℕ} → Residue s.vars.values c k → Every (Unset s.vars) k
  left_unset r x i = unset_of w.vars x (range x (r.among x i)) (r.unset x i).0 (r.unset x i).1

  left_proper : (a b : ℕ) (more : List ℕ) → Residue s.vars.values c (a ∷ b ∷ more) → Proper cfg.variables (a ∷ b ∷ more)
  left_proper a b more r = record { two = omega arith; range = λ x i. range x (r.among x i); distinct = r.distinct }

  intaken_formed : decision_level s.vars ≡ 0 → (t : Taken) → Intaken cfg s c t → WellFormed cfg t.state
  intaken_formed base t (closed e) = w
  intaken_formed base t (dropped_clause e x i v) = w
  intaken_formed base t (emptied e r) = ok_formed w false
  intaken_formed base t (unit_left e l r) =
      vars_formed w (unchecked_enqueue s.vars l no_reason) (enqueue_fixed w.vars l (range l (r.among l (here refl))) (left_unset r l (here refl)) base)
      (omega (arith, enqueue_length s.vars l no_reason))
  intaken_formed base t (stored_clause e a b more r room) =
      store_formed w (attach_clause s.store (a ∷ b ∷ more)) (attach_stored cfg s.store (a ∷ b ∷ more) w.store room (left_proper a b more r))
      (subst (λ (cs : List (List ℕ)). Assignment cfg.variables cs s.vars) (sym (attach_clauses s.store (a ∷ b ∷ more))) (clauses_more w.vars ((a ∷ b ∷ more) ∷ [])))
  intaken_formed base t (no_storage e a b more r room) = w

  pub add_clause_formed : decision_level s.vars ≡ 0 → 2 * cfg.variables ≤ undef_lit → WellFormed cfg (add_clause cfg s c).state
  add_clause_formed base small = intaken_formed base (add_clause cfg s c) (intaken cfg s c small range)
