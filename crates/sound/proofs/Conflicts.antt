-- A conflict in a search: at level 0 there is no model; above it a clause is learnt, and stored if there is room.
use Rattle.std.specs.Prelude.{◌≡◌, refl, ◌≢◌, ◌↔◌, true, false, length, get_or, eqb}
use Rattle.std.proofs.Common.{sym, ◌∙◌, arith, eqb-true}
use Rattle.std.proofs.Math.Path.{subst}
use mathlib.Core.List.{List, [], ◌∷◌, ◌++◌}
use Rattle.std.specs.Prelude.{Option, None as none, Some as some}
use Prim.Native.Nat.{ℕ, suc, ◌*◌, ◌≤◌, ◌<◌}
use Rattle.std.proofs.lemmas.Bool.{eqb-false}
use Rattle.model.specs.Lit.{neg, no_reason}
use Rattle.model.specs.Script.{Config}
use Rattle.model.specs.State.{State, Solver, decision_level, level_lit, clause_at, with_activity}
use Rattle.model.specs.Activity.{var_decay_activity}
use Rattle.model.specs.Analyze.{backtrack_level, analyze}
use Rattle.model.specs.Search.{FALSE, NO_STORAGE, add_learnt_and_backtrack, Turn, goes_on, ends, on_conflict}
use Rattle.lawbase.specs.Basics.{Every, split, on?}
use Rattle.lawbase.specs.Sem.{Rup}
use Rattle.lawbase.specs.WellFormed.{Distinct, Proper, Stored}
use Rattle.assign.proofs.Lists.{get_or_in}
use Rattle.assign.proofs.Back.{cancel_ok}
use Rattle.assign.specs.Searching.{Searching}
use Rattle.assign.specs.Learn.{Asserting}
use Rattle.assign.proofs.Learn.{learn_unit, learn_cases, room_index, searching_unit, searching_learnt}
use Rattle.learning.specs.FirstUip as Uip
use Rattle.learning.specs.Analyzed.{Analyzed}
use Rattle.learning.proofs.Analyzed.{analyze_law, analyze_rup}
use Rattle.watching.proofs.Attach.{attach_stored}
use Rattle.watching.specs.Watching.{Conflict}
use Rattle.watching.specs.Moves.{Returning}
use Rattle.watching.proofs.MoreMoves.{with_unit_watching, with_learnt_watching}
use Rattle.watching.proofs.Moves.{conflict_returning}
use Rattle.sound.specs.Intake.{Full}
use Rattle.sound.proofs.Intake.{no_room, room_not}
use Rattle.sound.specs.Sound.{Sound}
use Rattle.sound.proofs.Answers.{level_zero_rup}
use Rattle.sound.proofs.Learning.{analyzed_asserting, unit_sound, learnt_sound}
use Rattle.sound.specs.Verdict.{Solving, Stopped, refutes, no_storage, Turned, onward, over}

conflict_cases : (P : Turn → Type 0) (cfg : Config) (conflicts conflict_c : ℕ) (x : Solver) (confl : ℕ)
    → (decision_level x.state.vars ≡ 0 → P (ends (record { solver = x; conflicts = suc conflicts; status = FALSE [] })))
    → (decision_level x.state.vars ≢ 0
    → add_learnt_and_backtrack cfg x.state (analyze cfg x confl).clause (analyze cfg x confl).level ≡ none
    → P (ends (record { solver = with_activity x (analyze cfg x confl).activity; conflicts = suc conflicts; status = NO_STORAGE })))
    → (decision_level x.state.vars ≢ 0 → (s : State)
    → add_learnt_and_backtrack cfg x.state (analyze cfg x confl).clause (analyze cfg x confl).level ≡ some s
    → P (goes_on (suc conflicts) (suc conflict_c) (record { state = s; activity = var_decay_activity (analyze cfg x confl).activity })))
    → P (on_conflict cfg conflicts conflict_c x confl)
unfolding on_conflict
conflict_cases P cfg conflicts conflict_c x confl f g h =
    split (on? (eqb (decision_level x.state.vars) 0))
    (λ e. rw (e, on_conflict) (f (eqb-true (decision_level x.state.vars) 0 e)))
    (λ e. go e (add_learnt_and_backtrack cfg x.state (analyze cfg x confl).clause (analyze cfg x confl).level) refl)
  where
    go : eqb (decision_level x.state.vars) 0 ≡ false → (o : Option State)
        → add_learnt_and_backtrack cfg x.state (analyze cfg x confl).clause (analyze cfg x confl).level ≡ o
        → P (on_conflict cfg conflicts conflict_c x confl)
    go e none z = rw (e, z, on_conflict) (g (eqb-false (decision_level x.state.vars) 0 e) z)
    go e (some s) z = rw (e, z, on_conflict) (h (eqb-false (decision_level x.state.vars) 0 e) s z)

-- no storage for a learnt clause, exactly when it has two literals or more and meets intake's condition
module _ (cfg : Config) (s : State) (st : Stored cfg s.store) where
  full_rest : (uip : ℕ) (rest : List ℕ) (level : ℕ)
      → (add_learnt_and_backtrack cfg s (uip ∷ rest) level ≡ none) ↔ ((2 ≤ length (uip ∷ rest)) × Full cfg s.store (uip ∷ rest))
  full_rest uip [] level =
      (λ e. absurd (some_none (sym (learn_unit cfg s uip level) ∙ e)), λ h. absurd (omega (arith, h.0)))
    where
      some_none : {s' : State} → some s' ≡ none → ⊥
      some_none e = let z : ◌≡◌ {A = ℕ} 0 1 = cc in omega arith
  full_rest uip (second ∷ more) level =
      learn_cases cfg s uip level (λ o. (o ≡ none) ↔ ((2 ≤ length (uip ∷ second ∷ more)) × Full cfg s.store (uip ∷ second ∷ more))) second more
      (λ e. (λ _. (omega arith, no_room cfg s.store (uip ∷ second ∷ more) st.clauses e), λ _. refl))
      (λ e. (λ x. absurd (let z : ◌≡◌ {A = ℕ} 0 1 = cc in omega arith), λ h. absurd (room_not cfg s.store (uip ∷ second ∷ more) h.1 e)))

  pub learnt_full : (clause : List ℕ) (level : ℕ) → Analyzed cfg.variables s.store s.vars clause level
      → (add_learnt_and_backtrack cfg s clause level ≡ none) ↔ ((2 ≤ length clause) × Full cfg s.store clause)
  learnt_full clause level a =
      subst (λ c. (add_learnt_and_backtrack cfg s c level ≡ none) ↔ ((2 ≤ length c) × Full cfg s.store c)) (sym a.is)
      (full_rest (neg a.uip) a.rest level)

module _ {cfg : Config} {ps : List ℕ} {taken log : List (List ℕ)} (small : cfg.max_clauses ≤ no_reason) {s : State}
    (t : Returning cfg s) (r : Searching cfg ps s) (k : Sound cfg.variables taken log s) (o : s.ok ≡ true)
    (deep : 0 < decision_level s.vars) where
  -- the clause learnt finds its place, or no room
  Added : Option State → Type 0
  Added none = Stopped cfg taken log s
  Added (some s') = (l : List (List ℕ)) × Solving cfg ps taken l s'

  stopped : Stopped cfg taken log s
  stopped = record { returning = t; deep = deep; sound = k; ok = o }

  added-unit : (uip : ℕ) → Asserting s.vars 0 uip [] → Rup (log ++ taken) (uip ∷ []) → (level : ℕ)
      → Added (add_learnt_and_backtrack cfg s (uip ∷ []) level)
  unfolding Added
  added-unit uip a u level =
      rw (learn_unit cfg s uip level) (
        (uip ∷ []) ∷ log,
        record {
          searching = searching_unit r uip a;
          watching = with_unit_watching t uip a;
          sound = unit_sound k t.formed.vars cfg.phase uip a u;
          ok = cancel_ok cfg.phase s 0 ∙ o;
        },
      )

  added-stored : (uip level second : ℕ) (more : List ℕ) → Asserting s.vars level uip (second ∷ more) → Rup (log ++ taken) (uip ∷ second ∷ more)
      → level_lit s.vars second ≡ level → Proper cfg.variables (uip ∷ second ∷ more)
      → Added (add_learnt_and_backtrack cfg s (uip ∷ second ∷ more) level)
  unfolding Added
  added-stored uip level second more a u e p =
      learn_cases cfg s uip level Added second more (λ z. stopped)
      (λ z. (
        (uip ∷ second ∷ more) ∷ log,
        record {
          searching = searching_learnt r uip level (second ∷ more) a (room_index cfg s.store (uip ∷ second ∷ more) small z)
              (attach_stored cfg s.store (uip ∷ second ∷ more) t.formed.store z p);
          watching = with_learnt_watching t uip small level second more a e z p;
          sound = learnt_sound k t.formed.vars cfg.phase uip level (second ∷ more) a u;
          ok = cancel_ok cfg.phase s level ∙ o;
        },
      ))

  added_rest : (uip : ℕ) (rest : List ℕ) (level : ℕ) → Asserting s.vars level uip rest → Rup (log ++ taken) (uip ∷ rest)
      → level ≡ backtrack_level s.vars rest → Every (λ q. q < 2 * cfg.variables) (uip ∷ rest) → Distinct (uip ∷ rest)
      → Added (add_learnt_and_backtrack cfg s (uip ∷ rest) level)
  unfolding backtrack_level
  added_rest uip [] level a u e g d = added-unit uip (subst (λ j. Asserting s.vars j uip []) e a) u level
  added_rest uip (second ∷ more) level a u e g d =
      added-stored uip level second more a u (sym e) (record { two = omega arith; range = g; distinct = d })

  added : (clause : List ℕ) (level : ℕ) → Analyzed cfg.variables s.store s.vars clause level
      → Added (add_learnt_and_backtrack cfg s clause level)
  added clause level a =
      subst (λ c. Added (add_learnt_and_backtrack cfg s c level)) (sym a.is)
      (added_rest (neg a.uip) a.rest level (analyzed_asserting a)
      (subst (Rup (log ++ taken)) a.is (analyze_rup (log ++ taken) cfg.variables s.store s.vars clause level k.known a))
      a.second
      (subst (Every (λ q. q < 2 * cfg.variables)) a.is a.range)
      (subst Distinct a.is a.distinct))

module _ {cfg : Config} {ps : List ℕ} {taken log : List (List ℕ)} (small : cfg.max_clauses ≤ no_reason) (x : Solver) (confl : ℕ)
    (f : Conflict cfg confl x.state) (r : Searching cfg ps x.state) (k : Sound cfg.variables taken log x.state)
    (o : x.state.ok ≡ true) where
  clause_two : 2 ≤ length (clause_at x.state.store confl)
  clause_two =
      (f.falsified.formed.store.proper (clause_at x.state.store confl) (get_or_in x.state.store.clauses confl [] f.falsified.stored)).two

  -- the conflict as `analyze` takes it
  conflict_of : 0 < decision_level x.state.vars → Uip.Conflict cfg.variables x.state.store x.state.vars confl
  conflict_of deep =
      record {
        assignment = f.falsified.formed.vars;
        falsified = f.falsified.falses;
        deep = deep;
        top = (get_or (clause_at x.state.store confl) 0 0, get_or_in (clause_at x.state.store confl) 0 0 (omega (arith, clause_two)), f.first);
      }

  added_now : (deep : 0 < decision_level x.state.vars)
      → Added small (conflict_returning f) r k o deep (add_learnt_and_backtrack cfg x.state (analyze cfg x confl).clause (analyze cfg x confl).level)
  added_now deep =
      added small (conflict_returning f) r k o deep (analyze cfg x confl).clause (analyze cfg x confl).level (analyze_law cfg x confl (conflict_of deep))

  pub conflict_turned : (conflicts conflict_c : ℕ) → Turned cfg ps taken (on_conflict cfg conflicts conflict_c x confl)
  unfolding Added
  conflict_turned conflicts conflict_c =
      conflict_cases (Turned cfg ps taken) cfg conflicts conflict_c x confl
      (λ z.
      over (record { solver = x; conflicts = suc conflicts; status = FALSE [] })
      (refutes x.state log
      (record {
        formed = f.falsified.formed;
        level = z;
        sound = k;
        rup = level_zero_rup f.falsified.formed k z confl f.falsified.stored f.falsified.falses;
      })))
      (λ z e.
      over (record { solver = with_activity x (analyze cfg x confl).activity; conflicts = suc conflicts; status = NO_STORAGE })
      (no_storage x.state log (subst (Added small (conflict_returning f) r k o (omega arith)) e (added_now (omega arith)))))
      (λ z s e.
      let a = subst (Added small (conflict_returning f) r k o (omega arith)) e (added_now (omega arith)) in
      onward (suc conflicts) (suc conflict_c) (record { state = s; activity = var_decay_activity (analyze cfg x confl).activity }) a.0 a.1)
