-- The pick of a variable by turns.
use Rattle.std.specs.Prelude.{ℕ, zero, suc, ◌+◌, ◌≤◌, ◌<◌, ◌≡◌, Bool, List, [], ◌∷◌, length, get_or, drop, eqb, Float}
use Rattle.std.proofs.Common.{arith, add-one, sym, ◌∙◌, drop_of_length-le, drop-cons, eqb-true}
use Rattle.std.proofs.Math.Decide.{ℕ_discrete}
use Rattle.std.proofs.Math.Path.{refl}
use Rattle.std.proofs.Math.Bool.{true, false}
use Rattle.std.specs.Prelude.{Option, None as none, Some as some}
use Rattle.std.specs.Float.{nan}
use Rattle.std.specs.Float.Ieee.{lt}
use Rattle.model.specs.Lit.{l_undef}
use Rattle.model.specs.Decide.{pick}

-- the better of the best so far and variable v, whose value is x
abbrev pub better : List Float → Option ℕ → ℕ → ℕ → Option ℕ
better act best v x =
    elim (eqb x l_undef) [
      | false ↦ best
      | true ↦ elim best [ none ↦ some v | some b ↦ elim (lt (get_or act b nan) (get_or act v nan)) [ true ↦ some v | false ↦ some b ] ]
    ]

module _ (act : List Float) (v x : ℕ) (xs : List ℕ) where
  turn_some : (b : ℕ) (t : Bool) → eqb x l_undef ≡ true → lt (get_or act b nan) (get_or act v nan) ≡ t → pick act (some b) v (x ∷ xs) ≡ pick act (better act (some b) v x) (suc v) xs
  unfolding pick
  turn_some b true e l = rw (e, l, pick, better)
  turn_some b false e l = rw (e, l, pick, better)

  turn_test : (best : Option ℕ) (t : Bool) → eqb x l_undef ≡ t → pick act best v (x ∷ xs) ≡ pick act (better act best v x) (suc v) xs
  unfolding pick
  turn_test best false e = rw (e, pick, better)
  turn_test none true e = rw (e, pick, better)
  turn_test (some b) true e = turn_some b (lt (get_or act b nan) (get_or act v nan)) e refl

  pub pick_turn : (best : Option ℕ) → pick act best v (x ∷ xs) ≡ pick act (better act best v x) (suc v) xs
  pick_turn best = turn_test best (eqb x l_undef) refl

pub pick_end : (act : List Float) (best : Option ℕ) (v : ℕ) → pick act best v [] ≡ best
unfolding pick
pick_end act best v = refl

-- ---- the loop of the code: from variable i on

pub pick_more : (act : List Float) (values : List ℕ) (best next : Option ℕ) (i : ℕ) → i < length values → next ≡ better act best i (get_or values i 0)
    → pick act next (i + 1) (drop (i + 1) values) ≡ pick act best i (drop i values)
pick_more act values best next i h e = rw (e, add-one i, drop-cons values i 0 h) (sym (pick_turn act i (get_or values i 0) (drop (suc i) values) best))

pub pick_last : (act : List Float) (values : List ℕ) (best : Option ℕ) (i : ℕ) → length values ≤ i → pick act best i (drop i values) ≡ best
pick_last act values best i h = rw (drop_of_length-le values h) (pick_end act best i)

-- ---- what is picked has no value

abbrev pub Unset : List ℕ → Option ℕ → Type 0
Unset values none = Unit {0}
Unset values (some v) = (v < length values) × (get_or values v 0 ≡ l_undef)

better-unset : (act : List Float) (values : List ℕ) (best : Option ℕ) (v : ℕ) (t : Bool) → eqb (get_or values v 0) l_undef ≡ t → v < length values
    → Unset values best → Unset values (better act best v (get_or values v 0))
better-unset act values best v false e h u = rw (e, better) u
better-unset act values none v true e h u = rw (e, better) (h, eqb-true (get_or values v 0) l_undef e)
better-unset act values (some b) v true e h u = rw (e, better) (go (lt (get_or act b nan) (get_or act v nan)))
  where
    go : (t : Bool) → Unset values (elim t [ true ↦ some v | false ↦ some b ])
    go true = (h, eqb-true (get_or values v 0) l_undef e)
    go false = u

from_unset : (act : List Float) (values : List ℕ) (n v : ℕ) (best : Option ℕ) → v + n ≡ length values → Unset values best → Unset values (pick act best v (drop v values))
from_unset act values zero v best h u = rw (pick_last act values best v (omega arith)) u
from_unset act values (suc n) v best h u =
    rw (← pick_more act values best (better act best v (get_or values v 0)) v (omega arith) refl)
    (from_unset act values n (v + 1) (better act best v (get_or values v 0)) (omega arith) (better-unset act values best v (eqb (get_or values v 0) l_undef) refl (omega arith) u))

pub pick-unset : (act : List Float) (values : List ℕ) (v : ℕ) → pick act none 0 values ≡ some v → (v < length values) × (get_or values v 0 ≡ l_undef)
pick-unset act values v e = rw e at (from_unset act values (length values) 0 none (omega arith) tt)

-- ---- where none is picked, every variable has a value

better_some : (act : List Float) (b v x : ℕ) → (w : ℕ) × (better act (some b) v x ≡ some w)
better_some act b v x = go (eqb x l_undef) (lt (get_or act b nan) (get_or act v nan))
  where
    go : (s t : Bool) → (w : ℕ) × (elim s [ false ↦ some b | true ↦ elim t [ true ↦ some v | false ↦ some b ] ] ≡ some w)
    go false t = (b, refl)
    go true false = (b, refl)
    go true true = (v, refl)

module _ (act : List Float) (values : List ℕ) where
  some_stays : (n v b : ℕ) → v + n ≡ length values → pick act (some b) v (drop v values) ≡ none → ⊥
  some_stays zero v b h e =
      let z : some b ≡ none = sym (pick_last act values (some b) v (omega arith)) ∙ e in
      let q : ◌≡◌ {A = ℕ} 0 1 = cc in
      omega arith
  some_stays (suc n) v b h e =
      let w = better_some act b v (get_or values v 0) in
      some_stays n (v + 1) w.0 (omega arith) (pick_more act values (some b) (some w.0) v (omega arith) (sym w.1) ∙ e)

  none_set : (n v : ℕ) → v + n ≡ length values → pick act none v (drop v values) ≡ none → (k : ℕ) → v ≤ k → k < length values → eqb (get_or values k 0) l_undef ≡ false
  none_set zero v h e k l g = absurd (omega arith)
  none_set (suc n) v h e k l g = go (eqb (get_or values v 0) l_undef) refl (λ s. none_set n (v + 1) (omega arith) s k) (ℕ_discrete k v)
    where
      rest : (o : Option ℕ) → o ≡ better act none v (get_or values v 0) → pick act o (v + 1) (drop (v + 1) values) ≡ none
      rest o p = pick_more act values none o v (omega arith) p ∙ e

      go : (t : Bool) → eqb (get_or values v 0) l_undef ≡ t
          → (pick act none (v + 1) (drop (v + 1) values) ≡ none → v + 1 ≤ k → k < length values → eqb (get_or values k 0) l_undef ≡ false)
          → Dec (k ≡ v) → eqb (get_or values k 0) l_undef ≡ false
      go true q ih d = absurd (some_stays n (v + 1) v (omega arith) (rest (some v) (rw (q, better))))
      go false q ih (yes i) = rw i q
      go false q ih (no i) = ih (rest none (rw (q, better))) (omega arith) g

  pub pick_none : pick act none 0 values ≡ none → (v : ℕ) → v < length values → eqb (get_or values v 0) l_undef ≡ false
  pick_none e v g = none_set (length values) 0 (omega arith) e v (omega arith) g
