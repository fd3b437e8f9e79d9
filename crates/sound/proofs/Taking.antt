-- Taking a clause keeps what the state says of the clauses taken; answer 0 leaves them without a model.
use Rattle.std.specs.Prelude.{◌≡◌, refl, ◌⊎◌, ◌↔◌, Bool, true, false, List, [], ◌∷◌, ◌++◌, ℕ, ◌*◌, ◌≤◌, ◌<◌}
use Rattle.std.proofs.Common.{ap, sym, ◌∙◌, inl, inr, true≢false, arith}
use mathlib.Core.List.Memᴰ.{append_left as in_left}
use mathlib.Core.List.Memᴰ.{append_right as in_right}
use mathlib.Core.List.Memᴰ.{eq_of_singleton as only}
use mathlib.Core.List.Memᴰ.{head as here}
use mathlib.Core.List.Memᴰ.{not-nil}
use Rattle.model.specs.Lit.{var, neg, undef_lit, no_reason, is_true}
use Rattle.model.specs.Script.{Config}
use Rattle.model.specs.State.{VarState, State, decision_level, level_lit, with_ok, with_store, with_vars}
use Rattle.model.specs.Store.{attach_clause}
use Rattle.model.specs.Trail.{unchecked_enqueue}
use Rattle.model.specs.Intake.{Taken, add_clause}
use Rattle.model.specs.Book.{fed}
use Rattle.lawbase.specs.Basics.{◌∈◌, Every, every_one, every_append, split, on?}
use Rattle.lawbase.specs.Sem.{Row, sat, Sat, sat-neg, Respects, Closed, Rup}
use Rattle.lawbase.specs.WellFormed.{WellFormed}
use Rattle.assign.proofs.Reading.{unset-fresh, trail_level, on_is_true}
use Rattle.assign.proofs.Enqueue.{enqueue_level, enqueue_old, enqueue_new, enqueue_cases, new_level}
use Rattle.learning.specs.FirstUip.{Knows}
use Rattle.watching.specs.Watching.{Watching}
use Rattle.watching.proofs.Attach.{attach_clauses}
use Rattle.watching.specs.Intake.{Intaken, closed, dropped_clause, emptied, unit_left, stored_clause, no_storage}
use Rattle.watching.proofs.Intake.{intaken, add_clause_watching, intaken_level}
use Rattle.sound.proofs.Mono.{within_behind, within_more, closed_mono, rup_mono, log_mono, respects_less}
use Rattle.sound.specs.Intake.{Kept}
use Rattle.sound.proofs.Intake.{kept_of}
use Rattle.sound.specs.Sound.{Agrees, Sound, Ready}

-- ---- one clause more

-- what the step from s to s' has to show, when clause c is taken
record Grows (taken log : List (List ℕ)) (c : List ℕ) (s s' : State) : Type 0 where
  known : (S : ℕ → Bool) → Knows S s.store s.vars → Respects S c → Knows S s'.store s'.vars
  ok : s'.ok ≡ true → s.ok ≡ true
  before : s'.ok ≡ true → (ρ : ℕ → ℕ) → Agrees ρ s'.store s'.vars → Agrees ρ s.store s.vars
  true_now : s'.ok ≡ true → (ρ : ℕ → ℕ) → Row ρ → Agrees ρ s'.store s'.vars → Sat ρ c
  bad : s'.ok ≡ false → Rup (log ++ (taken ++ (c ∷ []))) []

module _ {n : ℕ} {taken log : List (List ℕ)} {s : State} (k : Sound n taken log s) (c : List ℕ) where
  -- a set closed over the clauses taken now
  module _ (S : ℕ → Bool) (h : Closed S (log ++ (taken ++ (c ∷ [])))) where
    pub closed_before : Closed S (log ++ taken)
    closed_before = closed_mono S (log ++ taken) (log ++ (taken ++ (c ∷ []))) (within_behind log taken (taken ++ (c ∷ [])) (within_more taken (c ∷ []))) h

    pub respects_new : Respects S c
    respects_new = h.respects c (in_right log (in_right taken (here refl)))

  rup_before : Rup (log ++ taken) [] → Rup (log ++ (taken ++ (c ∷ []))) []
  rup_before = rup_mono (log ++ taken) (log ++ (taken ++ (c ∷ []))) [] (within_behind log taken (taken ++ (c ∷ [])) (within_more taken (c ∷ [])))

  sound_grows : Every (λ l. l < 2 * n) c → (s' : State) → Grows taken log c s s' → Sound n (taken ++ (c ∷ [])) log s'
  sound_grows r s' g =
      record {
        known = λ S h. g.known S (k.known S (closed_before S h)) (respects_new S h);
        logged = log_mono taken (taken ++ (c ∷ [])) log (within_more taken (c ∷ [])) k.logged;
        covers = λ e ρ x a.
            every_append (Sat ρ) taken (k.covers (g.ok e) ρ x (g.before e ρ a)) (every_one (Sat ρ) (g.true_now e ρ x a));
        range = every_append (λ d. Every (λ l. l < 2 * n) d) taken k.range (every_one (λ d. Every (λ l. l < 2 * n) d) r);
        bad = g.bad;
      }

-- ---- the cases

module _ {cfg : Config} {taken log : List (List ℕ)} {s : State} (w : WellFormed cfg s) (z : decision_level s.vars ≡ 0)
    (k : Sound cfg.variables taken log s) (c : List ℕ) (range : Every (λ l. l < 2 * cfg.variables) c) where
  -- the whole trail is of level 0
  at_zero : (p : ℕ) → p ∈ s.vars.trail → level_lit s.vars p ≡ 0
  at_zero p i = omega (arith, trail_level w.vars p i)

  grows_shut : s.ok ≡ false → Grows taken log c s s
  grows_shut e =
      record {
        known = λ S x r. x;
        ok = λ o. o;
        before = λ o ρ a. a;
        true_now = λ o. absurd (true≢false (sym o ∙ e));
        bad = λ o. rup_before k c (k.bad o);
      }

  -- a literal is true at level 0, or both signs of one are there
  dropped_sat : (l : ℕ) → l ∈ c → (is_true s.vars.values l ≡ true) ⊎ (neg l ∈ c) → (ρ : ℕ → ℕ) → Row ρ → Agrees ρ s.store s.vars → Sat ρ c
  dropped_sat l i (inl t) ρ r a = let j = on_is_true w.vars l (range l i) t in (l, i, a.fixed l j (at_zero l j))
  dropped_sat l i (inr j) ρ r a = split (on? (sat ρ l)) (λ e. (l, i, e)) (λ e. (neg l, j, sat-neg ρ r l e))

  grows_dropped : s.ok ≡ true → (l : ℕ) → l ∈ c → (is_true s.vars.values l ≡ true) ⊎ (neg l ∈ c) → Grows taken log c s s
  grows_dropped e l i h =
      record {
        known = λ S x r. x;
        ok = λ o. o;
        before = λ o ρ a. a;
        true_now = λ o. dropped_sat l i h;
        bad = λ o. absurd (true≢false (sym e ∙ o));
      }

  -- what was left out is false at level 0
  left_out : (kept : List ℕ) → Kept cfg.variables s.vars c kept → (S : ℕ → Bool) → Knows S s.store s.vars
      → Every (λ l. (l ∈ kept) ⊎ (S (neg l) ≡ true)) c
  left_out kept h S x l i = split (h.rest l i) inl (λ j. inr (x.fixed (neg l) j (at_zero (neg l) j)))

  grows_empty : s.ok ≡ true → Kept cfg.variables s.vars c [] → Grows taken log c s (with_ok s false)
  grows_empty e h =
      record {
        known = λ S x r. record { stored = x.stored; fixed = x.fixed };
        ok = λ o. absurd (true≢false (sym o));
        before = λ o. absurd (true≢false (sym o));
        true_now = λ o. absurd (true≢false (sym o));
        bad = λ o S d _.
            (respects_new k c S d).clash
            (λ l i. split (left_out [] h S (k.known S (closed_before k c S d)) l i) (λ j. absurd (not-nil j)) (λ j. j));
      }

  module _ (l : ℕ) (h : Kept cfg.variables s.vars c (l ∷ [])) where
    abbrev vs' : VarState
    vs' = unchecked_enqueue s.vars l no_reason

    old_level : (p : ℕ) → p ∈ s.vars.trail → level_lit vs' p ≡ level_lit s.vars p
    old_level p i = enqueue_level s.vars l no_reason (var p) (unset-fresh w.vars l (h.unset l (here refl)) p i)

    grows_unit : s.ok ≡ true → Grows taken log c s (with_vars s vs')
    grows_unit e =
        record {
          known = λ S x r.
              record {
                stored = x.stored;
                fixed = λ p i y.
                    split (enqueue_cases s.vars l no_reason p i)
                    (λ j. x.fixed p j (at_zero p j))
                    (λ (q : p ≡ l).
                    rw q (r.unit l (h.among l (here refl))
                    (λ m j ne. split (left_out (l ∷ []) h S x m j) (λ d. absurd (ne (only d))) (λ d. d))));
              };
          ok = λ o. o;
          before = λ o ρ a.
              record { stored = a.stored; fixed = λ p i y. a.fixed p (enqueue_old s.vars l no_reason p i) (old_level p i ∙ y) };
          true_now = λ o ρ r a.
              (l, h.among l (here refl), a.fixed l (enqueue_new s.vars l no_reason) (new_level w.vars l no_reason (h.range l (here refl)) ∙ z));
          bad = λ o. absurd (true≢false (sym e ∙ o));
        }

  grows_stored : s.ok ≡ true → (d : List ℕ) → Kept cfg.variables s.vars c d → Grows taken log c s (with_store s (attach_clause s.store d))
  grows_stored e d h =
      record {
        known = λ S x r.
            record {
              stored = rw (attach_clauses s.store d)
                  (every_append (Respects S) s.store.clauses x.stored
                  (every_one (Respects S) (respects_less S c d h.among (left_out d h S x) r)));
              fixed = x.fixed;
            };
        ok = λ o. o;
        before = λ o ρ a. record { stored = λ C i. a.stored C (rw (attach_clauses s.store d) (in_left (d ∷ []) i)); fixed = a.fixed };
        true_now = λ o ρ r a.
            let q = a.stored d (rw (attach_clauses s.store d) (in_right s.store.clauses (here refl))) in
            (q.0, h.among q.0 q.1, q.2);
        bad = λ o. absurd (true≢false (sym e ∙ o));
      }

  taken_sound : (t : Taken) → Intaken cfg s c t → Sound cfg.variables (fed taken c t.answer) log t.state
  unfolding fed
  taken_sound t (closed e) = sound_grows k c range s (grows_shut e)
  taken_sound t (dropped_clause e l i h) = sound_grows k c range s (grows_dropped e l i h)
  taken_sound t (emptied e r) = sound_grows k c range (with_ok s false) (grows_empty e (kept_of w range r))
  taken_sound t (unit_left e l r) =
      sound_grows k c range (with_vars s (unchecked_enqueue s.vars l no_reason)) (grows_unit l (kept_of w range r) e)
  taken_sound t (stored_clause e a b more r x) =
      sound_grows k c range (with_store s (attach_clause s.store (a ∷ b ∷ more))) (grows_stored e (a ∷ b ∷ more) (kept_of w range r))
  taken_sound t (no_storage e a b more r x) = k

taken_answer : {cfg : Config} {s : State} {c : List ℕ} {t : Taken} → Intaken cfg s c t → t.answer ≤ 2
taken_answer (closed e) = omega arith
taken_answer (dropped_clause e l i h) = omega arith
taken_answer (emptied e r) = omega arith
taken_answer (unit_left e l r) = omega arith
taken_answer (stored_clause e a b more r x) = omega arith
taken_answer (no_storage e a b more r x) = omega arith

pub taken-zero : {cfg : Config} {s : State} {c : List ℕ} {t : Taken} → Intaken cfg s c t → (t.answer ≡ 0) ↔ (t.state.ok ≡ false)
taken-zero (closed e) = (λ _. e, λ _. refl)
taken-zero (dropped_clause e l i h) = (λ x. absurd (omega arith), λ o. absurd (true≢false (sym e ∙ o)))
taken-zero (emptied e r) = (λ _. refl, λ _. refl)
taken-zero (unit_left e l r) = (λ x. absurd (omega arith), λ o. absurd (true≢false (sym e ∙ o)))
taken-zero (stored_clause e a b more r x) = (λ y. absurd (omega arith), λ o. absurd (true≢false (sym e ∙ o)))
taken-zero (no_storage e a b more r x) = (λ y. absurd (omega arith), λ o. absurd (true≢false (sym e ∙ o)))

-- the state stays, or there might have been a model
taken_from : {cfg : Config} {s : State} {c : List ℕ} {t : Taken} → Intaken cfg s c t → ((s.ok ≡ false) × (t.state ≡ s)) ⊎ (s.ok ≡ true)
taken_from (closed e) = inl (e, refl)
taken_from (dropped_clause e l i h) = inr e
taken_from (emptied e r) = inr e
taken_from (unit_left e l r) = inr e
taken_from (stored_clause e a b more r x) = inr e
taken_from (no_storage e a b more r x) = inr e

-- ---- `add_clause`

module _ {cfg : Config} {taken log : List (List ℕ)} {s : State} (k : Ready cfg taken log s) (small : 2 * cfg.variables ≤ undef_lit) (c : List ℕ)
    (range : Every (λ l. l < 2 * cfg.variables) c) where
  pub intake : Intaken cfg s c (add_clause cfg s c)
  intake = intaken cfg s c small range

  watches_after : s.ok ≡ true → Watching cfg (add_clause cfg s c).state
  watches_after e = add_clause_watching (k.watching e) k.level c range small

  -- a clause answered 0 or 1 is taken now
  pub add_ready : Ready cfg (fed taken c (add_clause cfg s c).answer) log (add_clause cfg s c).state
  add_ready =
      record {
        formed = split (taken_from intake) (λ e. rw e.1 k.formed) (λ e. (watches_after e).formed);
        watching = λ o. split (taken_from intake) (λ e. absurd (true≢false (sym o ∙ ap (λ x. x.ok) e.1 ∙ e.0))) watches_after;
        level = intaken_level (add_clause cfg s c) intake ∙ k.level;
        sound = taken_sound k.formed k.level k.sound c range (add_clause cfg s c) intake;
      }

  pub add_answer : (add_clause cfg s c).answer ≤ 2
  add_answer = taken_answer intake
