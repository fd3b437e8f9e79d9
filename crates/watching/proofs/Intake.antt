-- Rule 1: a clause is taken as a set of unset literals of different variables, or dropped; taking one keeps the clauses covered.
use Rattle.std.specs.Prelude.{◌≡◌, Bool, ℕ, ◌*◌, ◌≤◌, ◌<◌, length}
use Rattle.std.proofs.Math.Path.{refl}
use Rattle.std.proofs.Common.{ap, inl, inr, arith}
use Rattle.std.proofs.Math.Bool.{true, false}
use mathlib.Core.List.Memᴰ.{head as here}
use mathlib.Core.List.Memᴰ.{not-nil}
use mathlib.Core.List.Memᴰ.{tail as there}
use mathlib.Core.List.{List, [], ◌∷◌}
use Rattle.std.specs.Prelude.{Option, None as none, Some as some}
use Rattle.model.specs.Lit.{var, neg, undef_lit, no_reason}
use Rattle.model.specs.Script.{Config}
use Rattle.model.specs.State.{State, decision_level, with_store}
use Rattle.model.specs.Store.{has_room, attach_clause}
use Rattle.model.specs.Intake.{sort, simplify, Taken, add_kept, add_clause}
use Rattle.lawbase.specs.Basics.{◌∈◌, Every, every_nil, split}
use Rattle.lawbase.specs.WellFormed.{Proper}
use Rattle.assign.specs.Reading.{Unset}
use Rattle.assign.proofs.Reading.{unset_of}
use Rattle.assign.proofs.Enqueue.{enqueue_limits}
use Rattle.watching.specs.Watching.{Watching}
use Rattle.watching.proofs.Moves.{ok_watching, fixed_watching, attach_watching}
use Rattle.watching.proofs.Sort.{sort_ascending, sort_every, sort-all}
use Rattle.watching.specs.Simplify.{Valueless, Simplified, dropped, simplified}
use Rattle.watching.proofs.Simplified.{simplify_simplified}
use Rattle.watching.specs.Intake.{Reduced, void, left, Residue, Intaken, stored_clause, no_storage, emptied, unit_left, dropped_clause, closed}

pub reduced : (n : ℕ) (values c : List ℕ) → 2 * n ≤ undef_lit → Every (λ x. x < 2 * n) c → Reduced values c (simplify values undef_lit [] (sort c))
reduced n values c small range =
    go (simplify values undef_lit [] (sort c))
    (simplify_simplified values undef_lit [] (sort c)
    (record { unset = every_nil (Valueless values); distinct = tt; highest = every_nil (λ x. var x ≤ var undef_lit); end = inr (refl, refl) })
    (sort_every (λ x. x < undef_lit) c (λ x i. (omega (arith, range x i, small)))) (sort_ascending c) (λ i. absurd (not-nil i)))
  where
    back : Every (λ x. x ∈ c) (sort c)
    back = sort_every (λ x. x ∈ c) c (λ x i. i)

    go : (o : Option (List ℕ)) → Simplified values [] (sort c) o → Reduced values c o
    go o (dropped x i w) = void x (back x i) (split w inl (λ j. inr (back (neg x) j)))
    go o (simplified k u d a m w) = left k (record { unset = u; distinct = d; among = λ x i. back x (m x i); gone = λ x i. w x (sort-all c x i) })

-- ---- the cases of `add_clause`

module _ (cfg : Config) (s : State) (c : List ℕ) where
  at_room : s.ok ≡ true → (a b : ℕ) (more : List ℕ) → Residue s.vars.values c (a ∷ b ∷ more)
      → (t : Bool) → has_room cfg s.store (a ∷ b ∷ more) ≡ t
      → Intaken cfg s c
      (elim t [
        | true ↦ record { state = with_store s (attach_clause s.store (a ∷ b ∷ more)); answer = 1 }
        | false ↦ record { state = s; answer = 2 }
      ])
  at_room o a b more r true e = stored_clause o a b more r e
  at_room o a b more r false e = no_storage o a b more r e

  at_kept : s.ok ≡ true → (k : List ℕ) → Residue s.vars.values c k → Intaken cfg s c (add_kept cfg s k)
  unfolding add_kept
  at_kept o [] r = emptied o r
  at_kept o (l ∷ []) r = unit_left o l r
  at_kept o (a ∷ b ∷ more) r = at_room o a b more r (has_room cfg s.store (a ∷ b ∷ more)) refl

  at_reduced : s.ok ≡ true → (o : Option (List ℕ)) → Reduced s.vars.values c o
      → Intaken cfg s c (elim o [ none ↦ record { state = s; answer = 1 } | some kept ↦ add_kept cfg s kept ])
  at_reduced e o (void x i w) = dropped_clause e x i w
  at_reduced e o (left k r) = at_kept e k r

  pub intaken : 2 * cfg.variables ≤ undef_lit → Every (λ x. x < 2 * cfg.variables) c → Intaken cfg s c (add_clause cfg s c)
  unfolding add_clause
  intaken small range = at_ok s.ok refl
    where
      at_ok : (b : Bool) → s.ok ≡ b
          → Intaken cfg s c
          (elim b [
            | false ↦ record { state = s; answer = 0 }
            | true ↦
                elim (simplify s.vars.values undef_lit [] (sort c)) [ none ↦ record { state = s; answer = 1 } | some kept ↦ add_kept cfg s kept ]
          ])
      at_ok true e = at_reduced e (simplify s.vars.values undef_lit [] (sort c)) (reduced cfg.variables s.vars.values c small range)
      at_ok false e = closed e

-- ---- taking a clause, at level 0

module _ {cfg : Config} {s : State} (h : Watching cfg s) (base : decision_level s.vars ≡ 0) (c : List ℕ) (range : Every (λ x. x < 2 * cfg.variables) c) where
  -- what is left may be stored
  pub residue_proper : (a b : ℕ) (more : List ℕ) → Residue s.vars.values c (a ∷ b ∷ more) → Proper cfg.variables (a ∷ b ∷ more)
  residue_proper a b more r = record { two = omega arith; range = λ x i. range x (r.among x i); distinct = r.distinct }

  pub residue_unset : (k : List ℕ) → Residue s.vars.values c k → Every (Unset s.vars) k
  residue_unset k r x i = unset_of h.formed.vars x (range x (r.among x i)) (r.unset x i).0 (r.unset x i).1

  pub intaken_watching : (t : Taken) → Intaken cfg s c t → Watching cfg t.state
  intaken_watching t (closed e) = h
  intaken_watching t (dropped_clause e x i w) = h
  intaken_watching t (emptied e r) = ok_watching h false
  intaken_watching t (unit_left e l r) = fixed_watching h l (range l (r.among l (here refl))) (residue_unset (l ∷ []) r l (here refl)) base
  intaken_watching t (stored_clause e a b more r room) =
      attach_watching h a b more room (residue_proper a b more r) (residue_unset (a ∷ b ∷ more) r a (here refl))
      (residue_unset (a ∷ b ∷ more) r b (there (here refl)))
  intaken_watching t (no_storage e a b more r room) = h

  -- whatever the answer
  pub add_clause_watching : 2 * cfg.variables ≤ undef_lit → Watching cfg (add_clause cfg s c).state
  add_clause_watching small = intaken_watching (add_clause cfg s c) (intaken cfg s c small range)

-- the level stays
pub intaken_level : {cfg : Config} {s : State} {c : List ℕ} (t : Taken) → Intaken cfg s c t → decision_level t.state.vars ≡ decision_level s.vars
intaken_level t (closed e) = refl
intaken_level t (dropped_clause e x i w) = refl
intaken_level t (emptied e r) = refl
intaken_level {s = s} t (unit_left e l r) = ap length (enqueue_limits s.vars l no_reason)
intaken_level t (stored_clause e a b more r room) = refl
intaken_level t (no_storage e a b more r room) = refl
