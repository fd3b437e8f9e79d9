-- `cancel_until` keeps what is well-formed.
use Rattle.std.specs.Prelude.{◌≡◌, refl, List, ℕ, ◌≤◌, ◌<◌}
use Rattle.std.proofs.Common.{sym, ◌∙◌, subst, arith, lt-ltb, le-ltb}
use Rattle.model.specs.Lit.{var}
use Rattle.model.specs.State.{State, level_lit, decision_level}
use Rattle.model.specs.Script.{Config}
use Rattle.model.specs.Trail.{saved_part, vars_until, cancel_until}
use Rattle.lawbase.specs.Basics.{◌∈◌, split, less?}
use Rattle.lawbase.specs.WellFormed.{Assignment, WellFormed}
use Rattle.assign.specs.Reading.{Unset}
use Rattle.assign.proofs.Reading.{trail_level}
use Rattle.assign.proofs.Cancel.{save-length, save-signs, until_length, until_level, until_assignment, until_old, until_kept, until_unset, until_still}
use Rattle.assign.specs.Back.{cut}

module _ (phase : ℕ) (s : State) (level : ℕ) where
  pub cancel_low : level < decision_level s.vars → cancel_until phase s level ≡ cut phase s level
  unfolding cancel_until
  cancel_low h = rw (lt-ltb level (decision_level s.vars) h, cancel_until)

  pub cancel_high : decision_level s.vars ≤ level → cancel_until phase s level ≡ s
  unfolding cancel_until
  cancel_high h = rw (le-ltb level (decision_level s.vars) h, cancel_until)

  -- the cases of `cancel_until`
  pub cancel_cases : (P : State → Type 0) → (decision_level s.vars ≤ level → P s) → (level < decision_level s.vars → P (cut phase s level))
      → P (cancel_until phase s level)
  cancel_cases P f g =
      split (less? level (decision_level s.vars)) (λ h. subst P (sym (cancel_low h)) (g h)) (λ h. subst P (sym (cancel_high h)) (f h))

  pub cancel_store : (cancel_until phase s level).store ≡ s.store
  cancel_store = cancel_cases (λ r. r.store ≡ s.store) (λ h. refl) (λ h. refl)

  pub cancel_ok : (cancel_until phase s level).ok ≡ s.ok
  cancel_ok = cancel_cases (λ r. r.ok ≡ s.ok) (λ h. refl) (λ h. refl)

  pub cancel_levels : (cancel_until phase s level).vars.levels ≡ s.vars.levels
  unfolding vars_until
  cancel_levels = cancel_cases (λ r. r.vars.levels ≡ s.vars.levels) (λ h. refl) (λ h. refl)

  pub cancel_reasons : (cancel_until phase s level).vars.reasons ≡ s.vars.reasons
  unfolding vars_until
  cancel_reasons = cancel_cases (λ r. r.vars.reasons ≡ s.vars.reasons) (λ h. refl) (λ h. refl)

  module _ {n : ℕ} {cs : List (List ℕ)} (w : Assignment n cs s.vars) where
    pub cancel_assignment : Assignment n cs (cancel_until phase s level).vars
    cancel_assignment = cancel_cases (λ r. Assignment n cs r.vars) (λ h. w) (λ h. until_assignment w level h)

    pub cancel_level : decision_level (cancel_until phase s level).vars ≤ level
    cancel_level = cancel_cases (λ r. decision_level r.vars ≤ level) (λ h. h) (λ h. omega (arith, until_level w level h))

    -- the trail left: the literals of the level or below
    pub cancel_old : (p : ℕ) → p ∈ (cancel_until phase s level).vars.trail → (p ∈ s.vars.trail) × (level_lit s.vars p ≤ level)
    cancel_old p =
        cancel_cases (λ r. p ∈ r.vars.trail → (p ∈ s.vars.trail) × (level_lit s.vars p ≤ level))
        (λ h i. (i, omega (arith, trail_level w p i)))
        (λ h i. until_old w level h p i)

    pub cancel_kept : (p : ℕ) → p ∈ s.vars.trail → level_lit s.vars p ≤ level → p ∈ (cancel_until phase s level).vars.trail
    cancel_kept p i l = cancel_cases (λ r. p ∈ r.vars.trail) (λ h. i) (λ h. until_kept w level h p i l)

    pub cancel_unset : (p : ℕ) → p ∈ s.vars.trail → level < level_lit s.vars p → Unset (cancel_until phase s level).vars p
    cancel_unset p i l =
        cancel_cases (λ r. Unset r.vars p) (λ h. absurd (omega (arith, trail_level w p i))) (λ h. until_unset w level h p i l)

    pub cancel_still : (p : ℕ) → var p < n → Unset s.vars p → Unset (cancel_until phase s level).vars p
    cancel_still p b u = cancel_cases (λ r. Unset r.vars p) (λ h. u) (λ h. until_still w level h p b u)

pub cut_formed : {cfg : Config} {s : State} → WellFormed cfg s → (phase level : ℕ) → level < decision_level s.vars → WellFormed cfg (cut phase s level)
cut_formed {s = s} w phase level h =
    let part = saved_part phase s.vars level in
    record {
      store = w.store;
      vars = until_assignment w.vars level h;
      phases = save-length s.phases part ∙ w.phases;
      signs = save-signs s.phases part w.signs;
      qhead = omega (arith, until_length w.vars level h);
    }

pub cancel_formed : {cfg : Config} {s : State} → WellFormed cfg s → (phase level : ℕ) → WellFormed cfg (cancel_until phase s level)
cancel_formed {cfg} {s} w phase level = cancel_cases phase s level (WellFormed cfg) (λ h. w) (cut_formed w phase level)
