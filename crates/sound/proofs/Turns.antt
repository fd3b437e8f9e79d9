-- One turn of `search`: propagation, then a conflict or the next decision.
use Rattle.std.specs.Prelude.{◌≡◌, refl, false, ◌||◌, List, ℕ, ◌*◌, ◌≤◌, ◌<◌, length, get_or, leb}
use Rattle.std.proofs.Common.{sym, ◌∙◌, subst}
use Rattle.std.specs.Prelude.{None as none, Some as some}
use Rattle.model.specs.Lit.{var, no_reason, l_undef}
use Rattle.model.specs.Script.{Config}
use Rattle.model.specs.State.{State, Solver, clause_at, with_state}
use Rattle.model.specs.Trail.{cancel_until}
use Rattle.model.specs.Propagate.{Propagated, propagate}
use Rattle.model.specs.Decide.{Decision, decided, complete, failed, decide}
use Rattle.model.specs.Search.{TRUE, FALSE, UNDEF, Turn, goes_on, ends, on_conflict, on_no_conflict, turn}
use Rattle.lawbase.specs.Basics.{◌∈◌, Every, split, on?}
use Rattle.assign.proofs.Back.{cancel_ok}
use Rattle.assign.specs.Searching.{Searching}
use Rattle.assign.proofs.Searching.{searching_cancel}
use Rattle.assign.specs.Decide.{Outcome, Completed, Failed}
use Rattle.assign.proofs.Outcomes.{decide-outcome}
use Rattle.watching.specs.Propagate.{Finished, quiet, clash}
use Rattle.watching.specs.Watching.{Watching, Settled, satisfied, open_two}
use Rattle.watching.proofs.Forced.{advance_searching}
use Rattle.watching.proofs.MoreMoves.{cancel_watching}
use Rattle.watching.specs.Decide.{Decides}
use Rattle.watching.proofs.Decide.{decide_watching}
use Rattle.watching.specs.Result.{Rested, Clashed}
use Rattle.watching.proofs.Result.{propagated}
use Rattle.sound.specs.Sound.{SameBase}
use Rattle.sound.proofs.Sound.{sound_same}
use Rattle.sound.proofs.Answers.{true_common, failed_finals}
use Rattle.sound.proofs.Steps.{cancel_sound, advance_sound}
use Rattle.sound.specs.Deciding.{decision_state}
use Rattle.sound.proofs.Deciding.{decide-base}
use Rattle.sound.specs.Verdict.{Solving, Verdict, models, fails, undecided, Turned, onward, over}
use Rattle.sound.proofs.Conflicts.{conflict_turned}

-- ---- no conflict

no_conflict_cases : (P : Turn → Type 0) (cfg : Config) (assumptions : List ℕ) (budget nof_conflicts conflicts conflict_c : ℕ) (x : Solver)
    → P (ends (record { solver = with_state x (cancel_until cfg.phase x.state 0); conflicts = conflicts; status = UNDEF }))
    → ((s : State) → decide x.activity.activities assumptions x.state ≡ decided s → P (goes_on conflicts conflict_c (with_state x s)))
    → ((s : State) → decide x.activity.activities assumptions x.state ≡ complete s
    → P (ends (record { solver = with_state x s; conflicts = conflicts; status = TRUE })))
    → ((s : State) (final : List ℕ) → decide x.activity.activities assumptions x.state ≡ failed s final
    → P (ends (record { solver = with_state x s; conflicts = conflicts; status = FALSE final })))
    → P (on_no_conflict cfg assumptions budget nof_conflicts conflicts conflict_c x)
unfolding on_no_conflict
no_conflict_cases P cfg ps budget nof_conflicts conflicts conflict_c x f g h k =
    split (on? (leb nof_conflicts conflict_c || leb budget conflicts)) (λ e. rw (e, on_no_conflict) f)
    (λ e. go e (decide x.activity.activities ps x.state) refl)
  where
    go : (leb nof_conflicts conflict_c || leb budget conflicts) ≡ false → (d : Decision) → decide x.activity.activities ps x.state ≡ d
        → P (on_no_conflict cfg ps budget nof_conflicts conflicts conflict_c x)
    go e (decided s) z = rw (e, z, on_no_conflict) (g s z)
    go e (complete s) z = rw (e, z, on_no_conflict) (h s z)
    go e (failed s final) z = rw (e, z, on_no_conflict) (k s final z)

module _ {cfg : Config} {ps : List ℕ} (range : Every (λ p. p < 2 * cfg.variables) ps) {taken log : List (List ℕ)} (x : Solver)
    (k : Solving cfg ps taken log x.state) (done : x.state.qhead ≡ length x.state.vars.trail)
    (settled : (c : ℕ) → c < length x.state.store.clauses → Settled x.state.vars (clause_at x.state.store c)) where
  outcome : Outcome cfg ps x.state (decide x.activity.activities ps x.state)
  outcome = decide-outcome range x.activity.activities k.searching

  watches : Decides cfg (decide x.activity.activities ps x.state)
  watches = decide_watching x.activity.activities ps range (record { watching = k.watching; rest = done })

  base : SameBase x.state (decision_state (decide x.activity.activities ps x.state))
  base = decide-base cfg x.activity.activities ps range x.state k.watching.formed

  -- the clauses and the trail are as they were
  still_settled : (s : State) → Completed cfg ps x.state s → (c : ℕ) → c < length s.store.clauses → Settled s.vars (clause_at s.store c)
  still_settled s d c h = carry (settled c (subst (λ st. c < length st.clauses) d.store h))
    where
      carry : Settled x.state.vars (clause_at x.state.store c) → Settled s.vars (clause_at s.store c)
      carry (satisfied l i j) =
          satisfied l (subst (λ st. l ∈ clause_at st c) (sym d.store) i) (subst (λ t. l ∈ t) (sym d.trail) j)
      carry (open_two a b) =
          rw d.store
          (open_two (subst (λ v. get_or v (var (get_or (clause_at x.state.store c) 0 0)) 0 ≡ l_undef) (sym d.values) a)
          (subst (λ v. get_or v (var (get_or (clause_at x.state.store c) 1 0)) 0 ≡ l_undef) (sym d.values) b))

  solving_of : (s : State) → Searching cfg ps s → Watching cfg s → SameBase x.state s → Solving cfg ps taken log s
  solving_of s d w b = record { searching = d; watching = w; sound = sound_same b k.sound; ok = b.ok ∙ k.ok }

  -- what `decide` comes to, all at once
  module _ (d : Decision) (e : decide x.activity.activities ps x.state ≡ d) where
    outcome_is : Outcome cfg ps x.state d
    outcome_is = subst (Outcome cfg ps x.state) e outcome

    watches_is : Decides cfg d
    watches_is = subst (Decides cfg) e watches

    base_is : SameBase x.state (decision_state d)
    base_is = subst (λ y. SameBase x.state (decision_state y)) e base

  completed : (s : State) → decide x.activity.activities ps x.state ≡ complete s → Verdict cfg ps taken TRUE s
  completed s e =
      let d : Completed cfg ps x.state s = outcome_is (complete s) e in
      let w : Watching cfg s = (watches_is (complete s) e).watching in
      let r = solving_of s d.searching w (base_is (complete s) e) in
      models s log r (true_common w.formed d.all (still_settled s d) r.sound r.ok ps d.assumed)

  falls : (s : State) (final : List ℕ) → decide x.activity.activities ps x.state ≡ failed s final → Verdict cfg ps taken (FALSE final) s
  falls s final e =
      let d : Failed cfg ps x.state s final = outcome_is (failed s final) e in
      let r = solving_of s d.searching (watches_is (failed s final) e).watching (base_is (failed s final) e) in
      fails s log r final (failed_finals d r.sound)

  no_conflict_turned : (budget nof_conflicts conflicts conflict_c : ℕ)
      → Turned cfg ps taken (on_no_conflict cfg ps budget nof_conflicts conflicts conflict_c x)
  no_conflict_turned budget nof_conflicts conflicts conflict_c =
      no_conflict_cases (Turned cfg ps taken) cfg ps budget nof_conflicts conflicts conflict_c x
      (over (record { solver = with_state x (cancel_until cfg.phase x.state 0); conflicts = conflicts; status = UNDEF })
      (undecided (cancel_until cfg.phase x.state 0) log
      (record {
        searching = searching_cancel k.searching cfg.phase 0;
        watching = cancel_watching k.watching cfg.phase 0;
        sound = cancel_sound k.sound cfg.phase 0 k.watching.formed.vars;
        ok = cancel_ok cfg.phase x.state 0 ∙ k.ok;
      })))
      (λ s e.
      onward conflicts conflict_c (with_state x s) log
      (solving_of s (outcome_is (decided s) e).searching (watches_is (decided s) e) (base_is (decided s) e)))
      (λ s e. over (record { solver = with_state x s; conflicts = conflicts; status = TRUE }) (completed s e))
      (λ s final e. over (record { solver = with_state x s; conflicts = conflicts; status = FALSE final }) (falls s final e))

-- ---- a turn

module _ {cfg : Config} (small : cfg.max_clauses ≤ no_reason) {ps : List ℕ} (range : Every (λ p. p < 2 * cfg.variables) ps)
    {taken log : List (List ℕ)} (budget nof_conflicts conflicts conflict_c : ℕ) (x : Solver) (k : Solving cfg ps taken log x.state) where
  turn_of : Propagated → Turn
  turn_of r =
      elim r.conflict [
        | some confl ↦ on_conflict cfg conflicts conflict_c (with_state x r.state) confl
        | none ↦ on_no_conflict cfg ps budget nof_conflicts conflicts conflict_c (with_state x r.state)
      ]

  turn_from : (r : Propagated) → Finished (Rested cfg x.state) (Clashed cfg x.state) r → Turned cfg ps taken (turn_of r)
  unfolding turn_of
  turn_from r (quiet s h e) =
      no_conflict_turned range (with_state x s)
      (record {
        searching = advance_searching cfg ps x.state s h.advance h.watching.formed k.searching;
        watching = h.watching;
        sound = advance_sound h.advance h.watching.formed.vars k.sound;
        ok = h.advance.ok ∙ k.ok;
      })
      e h.settled budget nof_conflicts conflicts conflict_c
  turn_from r (clash c s h) =
      let w = h.conflict.falsified.formed in
      conflict_turned small (with_state x s) c h.conflict (advance_searching cfg ps x.state s h.advance w k.searching)
      (advance_sound h.advance w.vars k.sound) (h.advance.ok ∙ k.ok) conflicts conflict_c

  pub turn_turned : Turned cfg ps taken (turn cfg ps budget nof_conflicts conflicts conflict_c x)
  unfolding turn turn_of
  turn_turned = turn_from (propagate cfg.variables x.state) (propagated cfg small x.state k.watching)
