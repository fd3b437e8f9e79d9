-- A learnt clause joins the log: the way back, and the clause's first literal set, keep what the state says of the clauses taken.
use Rattle.std.specs.Prelude.{◌≡◌, refl, Bool, true, List, [], ◌∷◌, ◌++◌, ℕ, ◌*◌, ◌<◌, length}
use Rattle.std.proofs.Common.{sym, ◌∙◌, arith}
use mathlib.Core.List.Memᴰ.{append_left as in_left}
use mathlib.Core.List.Memᴰ.{head as here}
use mathlib.Core.List.Memᴰ.{tail as there}
use Rattle.model.specs.Lit.{var, neg, no_reason}
use Rattle.model.specs.State.{Store, VarState, State, level_lit, with_store, with_vars}
use Rattle.model.specs.Store.{attach_clause}
use Rattle.model.specs.Trail.{unchecked_enqueue, cancel_until}
use Rattle.lawbase.specs.Basics.{◌∈◌, Every, every_one, every_append, split, in_tail, neg-neg, var-neg}
use Rattle.lawbase.specs.Sem.{Respects, Rup}
use Rattle.lawbase.specs.WellFormed.{Assignment}
use Rattle.assign.specs.Reading.{Unset}
use Rattle.assign.proofs.Reading.{unset-fresh, trail_level}
use Rattle.assign.proofs.Enqueue.{enqueue_level, enqueue_old, enqueue_cases, new_level}
use Rattle.assign.proofs.Back.{cancel_assignment}
use Rattle.assign.specs.Learn.{Asserting, with_unit, with_learnt}
use Rattle.assign.proofs.Learn.{uip_range, uip-unset, rest_false}
use Rattle.learning.specs.FirstUip.{Knows}
use Rattle.learning.specs.Analyzed.{Analyzed}
use Rattle.watching.proofs.Attach.{attach_clauses}
use Rattle.sound.proofs.Mono.{closed_mono, rup_mono}
use Rattle.sound.specs.Sound.{Agrees, Sound}
use Rattle.sound.proofs.Steps.{cancel_sound}

-- the clause of `analyze`, as the step takes it
pub analyzed_asserting : {n : ℕ} {st : Store} {vs : VarState} {clause : List ℕ} {level : ℕ} → (a : Analyzed n st vs clause level)
    → Asserting vs level (neg a.uip) a.rest
analyzed_asserting a =
    record {
      false_first = rw (neg-neg a.uip) a.uip_set;
      above = rw (var-neg a.uip, a.uip_top) a.lower;
      false_rest = a.falsified;
      low = a.below;
    }

-- ---- one clause more in the log

-- what the step from s to s' has to show, when clause C is learnt
record Learns (C : List ℕ) (s s' : State) : Type 0 where
  known : (S : ℕ → Bool) → Knows S s.store s.vars → Respects S C → Knows S s'.store s'.vars
  ok : s'.ok ≡ s.ok
  before : (ρ : ℕ → ℕ) → Agrees ρ s'.store s'.vars → Agrees ρ s.store s.vars

sound_learns : {n : ℕ} {taken log : List (List ℕ)} {s s' : State} {C : List ℕ} → Sound n taken log s → Rup (log ++ taken) C → Learns C s s'
    → Sound n taken (C ∷ log) s'
sound_learns {taken = taken} {log = log} {C = C} k u g =
    record {
      known = λ S h. g.known S (k.known S (closed_mono S (log ++ taken) (C ∷ (log ++ taken)) (λ D i. there i) h)) (h.respects C (here refl));
      logged = (u, k.logged);
      covers = λ e ρ r a. k.covers (sym g.ok ∙ e) ρ r (g.before ρ a);
      range = k.range;
      bad = λ e. rup_mono (log ++ taken) (C ∷ (log ++ taken)) [] (λ D i. there i) (k.bad (sym g.ok ∙ e));
    }

-- after the way back: the first literal is unset, the others are false
module _ {n : ℕ} {cs : List (List ℕ)} (s : State) (w : Assignment n cs s.vars) (l : ℕ) (rest : List ℕ) (from : ℕ) (range : l < 2 * n)
    (u : Unset s.vars l) (f : Every (λ q. neg q ∈ s.vars.trail) rest) where
  abbrev vs' : VarState
  vs' = unchecked_enqueue s.vars l from

  old_level : (p : ℕ) → p ∈ s.vars.trail → level_lit vs' p ≡ level_lit s.vars p
  old_level p i = enqueue_level s.vars l from (var p) (unset-fresh w l u p i)

  -- at level 0 the others are false at level 0
  new_held : (S : ℕ → Bool) → Knows S s.store s.vars → Respects S (l ∷ rest) → level_lit vs' l ≡ 0 → S l ≡ true
  new_held S k r z =
      r.unit l (here refl)
      (λ m i ne.
      let j = f m (in_tail i ne) in
      k.fixed (neg m) j (omega (arith, new_level w l from range, trail_level w (neg m) j)))

  fixed_more : (S : ℕ → Bool) → Knows S s.store s.vars → Respects S (l ∷ rest) → Every (λ p. level_lit vs' p ≡ 0 → S p ≡ true) vs'.trail
  fixed_more S k r p i =
      split (enqueue_cases s.vars l from p i) (λ j z. k.fixed p j (sym (old_level p j) ∙ z)) (λ (e : p ≡ l). rw e (new_held S k r))

  unit_learns : Learns (l ∷ rest) s (with_vars s vs')
  unit_learns =
      record {
        known = λ S k r. record { stored = k.stored; fixed = fixed_more S k r };
        ok = refl;
        before = λ ρ a. record { stored = a.stored; fixed = λ p i z. a.fixed p (enqueue_old s.vars l from p i) (old_level p i ∙ z) };
      }

  stored_learns : Learns (l ∷ rest) s (with_store (with_vars s vs') (attach_clause s.store (l ∷ rest)))
  stored_learns =
      let e = attach_clauses s.store (l ∷ rest) in
      record {
        known = λ S k r.
            record { stored = rw e (every_append (Respects S) s.store.clauses k.stored (every_one (Respects S) r)); fixed = fixed_more S k r };
        ok = refl;
        before = λ ρ a.
            record {
              stored = λ C i. a.stored C (rw e (in_left ((l ∷ rest) ∷ []) i));
              fixed = λ p i z. a.fixed p (enqueue_old s.vars l from p i) (old_level p i ∙ z);
            };
      }

-- ---- the step as `search` does it

module _ {n : ℕ} {cs : List (List ℕ)} {taken log : List (List ℕ)} {s : State} (k : Sound n taken log s) (w : Assignment n cs s.vars)
    (phase uip : ℕ) where
  pub unit_sound : Asserting s.vars 0 uip [] → Rup (log ++ taken) (uip ∷ []) → Sound n taken ((uip ∷ []) ∷ log) (with_unit phase s uip)
  unit_sound a u =
      sound_learns (cancel_sound k phase 0 w) u
      (unit_learns (cancel_until phase s 0) (cancel_assignment phase s 0 w) uip [] no_reason (uip_range w a) (uip-unset phase s 0 w uip a)
      (rest_false phase s 0 w uip a))

  pub learnt_sound : (level : ℕ) (rest : List ℕ) → Asserting s.vars level uip rest → Rup (log ++ taken) (uip ∷ rest)
      → Sound n taken ((uip ∷ rest) ∷ log) (with_learnt phase s level uip rest)
  learnt_sound level rest a u =
      sound_learns (cancel_sound k phase level w) u
      (stored_learns (cancel_until phase s level) (cancel_assignment phase s level w) uip rest (length s.store.clauses) (uip_range w a)
      (uip-unset phase s level w uip a)
      (rest_false phase s level w uip a))
