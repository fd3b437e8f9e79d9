-- The next decision is of an unset variable; where there is none, every variable has a value.
use Rattle.std.specs.Prelude.{◌≡◌, ◌≢◌, Bool, ℕ, suc, zero, ◌+◌, ◌*◌, ◌<◌, eqb, Float}
use Rattle.std.proofs.Math.Path.{refl, subst}
use Rattle.std.proofs.Math.Bool.{true, false}
use mathlib.Core.List.{List, [], ◌∷◌}
use Rattle.std.specs.Prelude.{Option, None as none, Some as some}
use Rattle.std.proofs.Common.{arith}
use Rattle.std.proofs.Math.ListN.{length, get_or}
use Rattle.std.specs.Float.{nan}
use Rattle.std.specs.Float.Ieee.{lt}
use borrow.Author.Tests.{eqb-true, eqb-false}
use Rattle.model.specs.Lit.{var, l_undef}
use Rattle.model.specs.State.{State}
use Rattle.model.specs.Script.{Config}
use Rattle.model.specs.Decide.{pick, pick_branch_lit}
use Rattle.lawbase.specs.Basics.{on?, split}
use Rattle.lawbase.specs.WellFormed.{WellFormed}
use Rattle.assign.proofs.Lists.{get_or_in}
use Rattle.assign.specs.Pick.{Picked, Free}

-- one step of `pick`: a set variable is passed; after an unset one the best is that or the best before it
module _ (P : Option ℕ → Type 0) (act : List Float) (v x : ℕ) (xs : List ℕ) where
  better : (b : ℕ) → P (pick act (some v) (suc v) xs) → P (pick act (some b) (suc v) xs) → x ≡ l_undef → (t : Bool)
      → lt (get_or act b nan) (get_or act v nan) ≡ t → eqb x l_undef ≡ true → P (pick act (some b) v (x ∷ xs))
  unfolding pick
  better b f g u true e c = rw (c, e, pick) f
  better b f g u false e c = rw (c, e, pick) g

  undef_step : (best : Option ℕ) → eqb x l_undef ≡ true → P (pick act (some v) (suc v) xs)
      → ((b : ℕ) → best ≡ some b → P (pick act (some b) (suc v) xs)) → P (pick act best v (x ∷ xs))
  unfolding pick
  undef_step none c f g = rw (c, pick) f
  undef_step (some b) c f g = better b f (g b refl) (eqb-true x l_undef c) (lt (get_or act b nan) (get_or act v nan)) refl c

  pub pick_step : (best : Option ℕ) → (x ≢ l_undef → P (pick act best (suc v) xs)) → (x ≡ l_undef → P (pick act (some v) (suc v) xs))
      → ((b : ℕ) → best ≡ some b → x ≡ l_undef → P (pick act (some b) (suc v) xs)) → P (pick act best v (x ∷ xs))
  unfolding pick
  pick_step best f g h =
      split (on? (eqb x l_undef))
      (λ c. let u = eqb-true x l_undef c in undef_step best c (g u) (λ b e. h b e u))
      (λ c. rw (c, pick) (f (eqb-false x l_undef c)))

picked_of : (G : ℕ → Type 0) (best : Option ℕ) (b : ℕ) → Picked G best → best ≡ some b → G b
picked_of G best b h e = subst (Picked G) e h

module _ (G : ℕ → Type 0) (act : List Float) where
  pub pick-picked : (best : Option ℕ) (v : ℕ) (xs : List ℕ) → Picked G best → ((i : ℕ) → i < length xs → get_or xs i 0 ≡ l_undef → G (v + i))
      → Picked G (pick act best v xs)
  unfolding pick
  pick-picked best v [] h f = h
  pick-picked best v (x ∷ xs) h f =
      let g : (i : ℕ) → i < length xs → get_or xs i 0 ≡ l_undef → G (suc v + i) = λ i b e. subst G (omega arith) (f (suc i) (omega arith) e) in
      pick_step (Picked G) act v x xs best
      (λ d. pick-picked best (suc v) xs h g)
      (λ u. pick-picked (some v) (suc v) xs (subst G (omega arith) (f 0 (omega arith) u)) g)
      (λ b e u. pick-picked (some b) (suc v) xs (picked_of G best b h e) g)

some_none : {b : ℕ} {o : Option ℕ} → o ≡ some b → o ≡ none → ⊥
some_none e f = let z : ◌≡◌ {A = ℕ} 0 1 = cc in omega arith

pick_some : (act : List Float) (b v : ℕ) (xs : List ℕ) → pick act (some b) v xs ≡ none → ⊥
unfolding pick
pick_some act b v [] e = some_none {b = b} refl e
pick_some act b v (x ∷ xs) e =
    pick_step (λ o. o ≡ none → ⊥) act v x xs (some b) (λ d. pick_some act b (suc v) xs) (λ u. pick_some act v (suc v) xs) (λ c q u. pick_some act c (suc v) xs) e

pub pick_none : (act : List Float) (best : Option ℕ) (v : ℕ) (xs : List ℕ) → pick act best v xs ≡ none → (i : ℕ) → i < length xs
    → get_or xs i 0 ≢ l_undef
unfolding pick
pick_none act best v [] e i h = absurd (omega arith)
pick_none act best v (x ∷ xs) e zero h = pick_step (λ o. o ≡ none → x ≢ l_undef) act v x xs best (λ d f. d) (λ u f. absurd (pick_some act v (suc v) xs f)) (λ b q u f. absurd (pick_some act b (suc v) xs f)) e
pick_none act best v (x ∷ xs) e (suc i) h =
    pick_step (λ o. o ≡ none → get_or xs i 0 ≢ l_undef) act v x xs best (λ d f. pick_none act best (suc v) xs f i (omega arith))
    (λ u f. absurd (pick_some act v (suc v) xs f))
    (λ b q u f. absurd (pick_some act b (suc v) xs f))
    e

-- ---- the decision

pub branch_cases : (P : Option ℕ → Type 0) (act : List Float) (s : State) → (pick act none 0 s.vars.values ≡ none → P none)
    → ((v : ℕ) → pick act none 0 s.vars.values ≡ some v → P (some (2 * v + get_or s.phases v 0))) → P (pick_branch_lit act s)
unfolding pick_branch_lit
branch_cases P act s f g = go (pick act none 0 s.vars.values) refl
  where
    go : (o : Option ℕ) → pick act none 0 s.vars.values ≡ o → P (pick_branch_lit act s)
    go none e = rw (e, pick_branch_lit) (f e)
    go (some v) e = rw (e, pick_branch_lit) (g v e)

module _ {cfg : Config} {s : State} (w : WellFormed cfg s) (act : List Float) where
  free_var : (v : ℕ) → (v < cfg.variables) × (get_or s.vars.values v 0 ≡ l_undef) → Free cfg.variables s (2 * v + get_or s.phases v 0)
  free_var v h =
      let b : get_or s.phases v 0 < 2 = w.signs (get_or s.phases v 0) (get_or_in s.phases v 0 (omega (arith, h.0, w.phases))) in
      let e : var (2 * v + get_or s.phases v 0) ≡ v = omega arith in
      record { range = omega (arith, h.0); unset = rw e h.1 }

  picked-var : (v : ℕ) → pick act none 0 s.vars.values ≡ some v → (v < cfg.variables) × (get_or s.vars.values v 0 ≡ l_undef)
  picked-var v e =
      subst (Picked (λ x. (x < cfg.variables) × (get_or s.vars.values x 0 ≡ l_undef))) e
      (pick-picked (λ x. (x < cfg.variables) × (get_or s.vars.values x 0 ≡ l_undef)) act none 0 s.vars.values tt
      (λ i b u. let z : 0 + i ≡ i = omega arith in rw z (omega (arith, b, w.vars.values), u)))

  pub branch_some : (p : ℕ) → pick_branch_lit act s ≡ some p → Free cfg.variables s p
  branch_some p e =
      subst (Picked (Free cfg.variables s)) e
      (branch_cases (Picked (Free cfg.variables s)) act s (λ f. tt) (λ v f. free_var v (picked-var v f)))

  pub branch_none : pick_branch_lit act s ≡ none → (v : ℕ) → v < cfg.variables → get_or s.vars.values v 0 ≢ l_undef
  branch_none e v h =
      branch_cases (λ o. o ≡ none → get_or s.vars.values v 0 ≢ l_undef) act s
      (λ f g. pick_none act none 0 s.vars.values f v (omega (arith, w.vars.values)))
      (λ x f g. absurd (some_none {b = 2 * x + get_or s.phases x 0} refl g))
      e
