-- A search that another one follows has had a conflict; so a solve has turns enough.
use Rattle.std.specs.Prelude.{◌≡◌, ◌⊎◌, Bool, List, ℕ, suc, ◌*◌, ◌≤◌, ◌<◌}
use Rattle.std.proofs.Math.Path.{refl}
use Rattle.std.proofs.Common.{sym, ◌∙◌, inl, inr, arith}
use Rattle.std.proofs.Math.Bool.{true, false}
use Rattle.std.proofs.Math.Dec.{ltb}
use borrow.Author.Tests.{ltb-true, lt-ltb}
use Rattle.model.specs.Luby.{luby}
use Rattle.model.specs.Script.{Config}
use Rattle.model.specs.State.{Solver}
use Rattle.model.specs.Search.{Status, TRUE, FALSE, UNDEF, NO_STORAGE, Searched, Turn, most_turns, search, solve_internal}
use Rattle.lawbase.specs.Basics.{split, less?}
use Rattle.assign.proofs.Back.{cancel_level}
use Rattle.ends.proofs.Credit.{ongoing_cancel, credit_cancel}
use Rattle.ends.specs.Comes.{Comes, conflict, decision, refuted, full, stopped, completed, falsified}
use Rattle.ends.proofs.Comes.{advance_propagates}
use Rattle.ends.specs.Turns.{Then}
use Rattle.ends.specs.Last.{Last}
use Rattle.ends.specs.Restart.{Again, round, Stopped, Restarted}

pub again? : (budget : ℕ) (r : Searched) → Again budget r ⊎ (Again budget r → ⊥)
again? budget r = go r.status refl
  where
    never : (s : Status) → r.status ≡ s → (s ≡ UNDEF → ⊥) → Again budget r ⊎ (Again budget r → ⊥)
    never s e n = inr (λ a. n (sym e ∙ a.status))

    go : (s : Status) → r.status ≡ s → Again budget r ⊎ (Again budget r → ⊥)
    go TRUE e = never TRUE e (λ z. let y : ◌≡◌ {A = ℕ} 0 1 = cc in omega arith)
    go (FALSE final) e = never (FALSE final) e (λ z. let y : ◌≡◌ {A = ℕ} 0 1 = cc in omega arith)
    go NO_STORAGE e = never NO_STORAGE e (λ z. let y : ◌≡◌ {A = ℕ} 0 1 = cc in omega arith)
    go UNDEF e =
        split (less? r.conflicts budget) (λ l. inl (record { status = e; affords = l })) (λ l. inr (λ a. omega (arith, a.affords, l)))

module _ (cfg : Config) (ps : List ℕ) (budget turns k : ℕ) where
  pub solve-round : (a : ℕ) (x : Solver)
      → solve_internal cfg ps budget (suc turns) k a x
      ≡ round cfg ps budget turns k (search cfg ps budget (luby k * cfg.unit) (most_turns cfg ps) a 0 x)
  unfolding solve_internal round
  solve-round a x = refl

  pub round_goes : (r : Searched) → Again budget r → round cfg ps budget turns k r ≡ solve_internal cfg ps budget turns (suc k) r.conflicts r.solver
  unfolding round
  round_goes r h = rw (h.status, lt-ltb r.conflicts budget h.affords, round)

  pub round_ends : (r : Searched) → (Again budget r → ⊥) → round cfg ps budget turns k r ≡ r
  unfolding round
  round_ends r h = go r.status refl
    where
      spent : r.status ≡ UNDEF → (b : Bool) → ltb r.conflicts budget ≡ b
          → (elim b [ true ↦ solve_internal cfg ps budget turns (suc k) r.conflicts r.solver | false ↦ r ]) ≡ r
      spent z true e = absurd (h (record { status = z; affords = ltb-true r.conflicts budget e }))
      spent z false e = refl

      go : (s : Status) → r.status ≡ s
          → (elim s [
            | TRUE ↦ r
            | FALSE final ↦ r
            | NO_STORAGE ↦ r
            | UNDEF ↦ elim (ltb r.conflicts budget) [ true ↦ solve_internal cfg ps budget turns (suc k) r.conflicts r.solver | false ↦ r ]
          ]) ≡ r
      go TRUE z = refl
      go (FALSE final) z = refl
      go NO_STORAGE z = refl
      go UNDEF z = spent z (ltb r.conflicts budget) refl

-- ---- the next search

pub stops : {cfg : Config} {ps : List ℕ} {budget nof c b : ℕ} {y : Solver} {t : Turn} → Comes cfg ps budget nof c b y t
    → Then (λ _ _ _. Unit {0}) (λ r. Again budget r → Stopped cfg ps nof c b y r) t
stops (conflict confl s s' k l e) = tt
stops (decision s s' g e d) = tt
stops (refuted confl s k r z) = λ h. let z : ◌≡◌ {A = ℕ} 0 1 = cc h.status in absurd (omega arith)
stops (full confl s k r z f) = λ h. let z : ◌≡◌ {A = ℕ} 0 1 = cc h.status in absurd (omega arith)
stops (completed s s' g r d m) = λ h. let z : ◌≡◌ {A = ℕ} 0 1 = cc h.status in absurd (omega arith)
stops (falsified s s' final g r d m) = λ h. let z : ◌≡◌ {A = ℕ} 0 1 = cc h.status in absurd (omega arith)
stops {cfg} {budget = budget} {nof = nof} {c = c} {b = b} (stopped s r o t) = λ h.
    record {
      ongoing = ongoing_cancel o cfg.phase 0;
      flat = omega (arith, cancel_level cfg.phase s 0 o.watching.formed.vars);
      kept = omega (arith, credit_cancel o.watching.formed cfg.phase 0, (advance_propagates {cfg = cfg} r.rested.advance).kept);
      reached = reach t h.affords;
      conflicts = refl;
    }
  where
    reach : (nof ≤ b) ⊎ (budget ≤ c) → c < budget → nof ≤ b
    reach (inl m) l = m
    reach (inr m) l = absurd (omega arith)

pub restarted : {cfg : Config} {ps : List ℕ} {budget nof a : ℕ} {x : Solver} {r : Searched} → 1 ≤ nof → Last cfg ps budget nof a x r → Again budget r
    → Restarted cfg ps budget a x r.conflicts r.solver
restarted one l h =
    let s = stops l.comes h in
    record {
      ongoing = s.ongoing;
      flat = s.flat;
      less = omega (arith, s.kept, s.reached, l.within.spent);
      spent = omega (arith, s.kept, s.conflicts, l.within.spent);
      high = λ m. omega (arith, s.conflicts, l.within.high m);
    }
