-- The way back to a level, and that it keeps a state still.
use Rattle.std.specs.Prelude.{ℕ, ◌≤◌, ◌<◌, ◌≡◌, refl, true, false, length, leb}
use Rattle.std.proofs.Common.{arith, sym, subst, ◌∙◌, ap, le-leb}
use Rattle.lawbase.specs.Basics.{split, less?}
use Rattle.std.proofs.lemmas.Bool.{lt-leb}
use Rattle.std.proofs.Math.Seq.{length-take-le}
use Rattle.model.specs.State.{decision_level}
use Rattle.model.specs.Trail.{vars_until, cancel_until, level_end}
use Rattle.lawbase.specs.WellFormed.{WellFormed}
use Rattle.assign.proofs.Lists.{get_or_in}
use Rattle.assign.proofs.Reading.{trail_var}
use Rattle.assign.proofs.Back.{cancel_low, cancel_high, cancel_formed}
use Rattle.options.specs.Numbers.{phase_number}
use Rattle.trail.specs.View.{Undoable, until, back_to}
use Rattle.state.specs.declared.State.{State}
use Rattle.state.specs.Still.{Still, Has, Beside, config_of, state_at}

-- the state with the trail cut at a level, and the phases saved
abbrev pub cut : ℕ → State → ℕ → State
cut phase s level =
    record {
      config = s.config;
      trail = until phase s.trail level;
      scratch = s.scratch;
      watches = s.watches;
      clauses = s.clauses;
      finals = s.finals;
      qhead = length (until phase s.trail level).vars.trail;
      ok = s.ok;
    }

-- the same, where there are levels above it
unfoldable pub cut_to : ℕ → State → ℕ → State
cut_to phase s level = elim (leb (decision_level s.trail.vars) level) [ true ↦ s | false ↦ cut phase s level ]

module _ (phase : ℕ) (s : State) (level : ℕ) where
  pub cut_stays : decision_level s.trail.vars ≤ level → cut_to phase s level ≡ s
  unfolding cut_to
  cut_stays h = rw (le-leb (decision_level s.trail.vars) level h, cut_to)

  pub cut_goes : level < decision_level s.trail.vars → cut_to phase s level ≡ cut phase s level
  unfolding cut_to
  cut_goes h = rw (lt-leb (decision_level s.trail.vars) level h, cut_to)

  -- the cases of `cut_to`
  pub cut_cases : (P : State → Type 0) → (decision_level s.trail.vars ≤ level → P s) → (level < decision_level s.trail.vars → P (cut phase s level)) → P (cut_to phase s level)
  cut_cases P f g = split (less? level (decision_level s.trail.vars)) (λ h. subst P (sym (cut_goes h)) (g h)) (λ h. subst P (sym (cut_stays h)) (f h))

  -- only the trail changes, and the queue's head
  pub cut_beside : Beside s (cut_to phase s level)
  cut_beside = cut_cases (Beside s) (λ h. record { config = refl; scratch = refl; finals = refl }) (λ h. record { config = refl; scratch = refl; finals = refl })

  pub cut_stored : ((cut_to phase s level).watches ≡ s.watches) × ((cut_to phase s level).clauses ≡ s.clauses)
  cut_stored = cut_cases (λ (r : State). (r.watches ≡ s.watches) × (r.clauses ≡ s.clauses)) (λ h. (refl, refl)) (λ h. (refl, refl))

  pub cut_trail : (cut_to phase s level).trail ≡ back_to phase s.trail level
  unfolding back_to
  cut_trail =
      cut_cases (λ (r : State). r.trail ≡ back_to phase s.trail level) (λ h. rw (le-leb (decision_level s.trail.vars) level h, back_to))
      (λ h. rw (lt-leb (decision_level s.trail.vars) level h, back_to))

  -- it is the definition's way back, of any state whose level starts on the trail
  cut_low : (level < decision_level s.trail.vars) → level_end s.trail.vars level ≤ length s.trail.vars.trail → state_at (cut phase s level) ≡ cancel_until phase (state_at s) level
  unfolding vars_until
  cut_low h within =
      let n : length (vars_until s.trail.vars level).trail ≡ level_end s.trail.vars level = length-take-le (level_end s.trail.vars level) s.trail.vars.trail within in
      ap
      (λ (q : ℕ).
      record {
        ok = s.ok;
        store = (state_at s).store;
        vars = vars_until s.trail.vars level;
        phases = (until phase s.trail level).phases;
        qhead = q;
      })
      n
      ∙ sym (cancel_low phase (state_at s) level h)

  pub cut_state : (level < decision_level s.trail.vars → Undoable (length s.trail.vars.values) s.trail.vars level) → state_at (cut_to phase s level) ≡ cancel_until phase (state_at s) level
  cut_state u =
      cut_cases (λ (r : State). state_at r ≡ cancel_until phase (state_at s) level) (λ h. sym (cancel_high phase (state_at s) level h)) (λ h. let b = u h in cut_low h b.within)

module _ (s : State) (k : Still s) (level : ℕ) where
  pub back_undoable : level < decision_level s.trail.vars → Undoable (length s.trail.vars.values) s.trail.vars level
  back_undoable h =
      let v = k.formed.vars in
      record {
        within = v.limits level h;
        ordered = v.sorted level _ (omega arith) (omega arith);
        lits = λ i b. rw k.sized.values (trail_var v _ (get_or_in s.trail.vars.trail i 0 b));
      }

  -- a still state stays still
  pub back_has : Has (cut_to (phase_number s.config.phase) s level) (cancel_until (phase_number s.config.phase) (state_at s) level)
  back_has =
      let phase = phase_number s.config.phase in
      let is = cut_state phase s level back_undoable in
      let goes : (level < decision_level s.trail.vars) → Still (cut phase s level) =
      (λ h.
      let e : state_at (cut phase s level) ≡ cancel_until phase (state_at s) level = sym (ap state_at (cut_goes phase s level h)) ∙ is in
      let f : WellFormed (config_of s.config) (state_at (cut phase s level)) = subst (WellFormed (config_of s.config)) (sym e) (cancel_formed k.formed phase level) in
      record {
        sized =
            record {
              some = k.sized.some;
              vars = k.sized.vars;
              room = k.sized.room;
              lit_room = k.sized.lit_room;
              values = f.vars.values;
              marks = k.sized.marks;
              buffer = k.sized.buffer;
              stack = k.sized.stack;
              notes = k.sized.notes;
              lists = k.sized.lists;
              blockers = k.sized.blockers;
              chains = k.sized.chains;
              clauses = k.sized.clauses;
              literals = k.sized.literals;
              flags = k.sized.flags;
              members = k.sized.members;
            };
        idle = record { marks = k.idle.marks; final = k.idle.final; pushed = k.idle.pushed; nodes = k.idle.nodes };
        formed = f;
      })
      in
      record { still = cut_cases phase s level Still (λ h. k) goes; state = is }

  -- the two cases of it: the level is not left, or it is
  pub back_stays : decision_level s.trail.vars ≤ level → Has s (cancel_until (phase_number s.config.phase) (state_at s) level)
  back_stays h = rw (cut_stays (phase_number s.config.phase) s level h) at back_has

  module _ (h : level < decision_level s.trail.vars) where
    -- the state with the trail cut
    abbrev gone : State
    gone = cut (phase_number s.config.phase) s level

    pub back_goes : Has gone (cancel_until (phase_number s.config.phase) (state_at s) level)
    back_goes = rw (cut_goes (phase_number s.config.phase) s level h) at back_has

    gone_state : state_at gone ≡ cancel_until (phase_number s.config.phase) (state_at s) level
    gone_state = back_goes.state
