-- What the steps of a turn leave.
use Rattle.std.specs.Prelude.{ℕ, suc, ◌+◌, ◌≤◌, ◌<◌, ◌≡◌, refl, ◌⊎◌, List, [], get_or, length, Option, None as none, Some as some, true, false, Result, Ok, Err, is_err}
use Rattle.std.proofs.Common.{arith, add-one, sym, ap, ◌∙◌, subst, inl, inr, true≢false}
use Rattle.model.specs.Script as Script
use Rattle.model.specs.State as ms
use Rattle.model.specs.State.{Activity, decision_level, clause_at, with_state}
use Rattle.model.specs.Trail.{cancel_until}
use Rattle.model.specs.Activity.{var_decay_activity}
use Rattle.model.specs.Propagate as prop
use Rattle.model.specs.Propagate.{propagate}
use Rattle.model.specs.Analyze as analysis
use Rattle.model.specs.Decide as dec
use Rattle.model.specs.Search as model
use Rattle.model.specs.Search.{add_learnt_and_backtrack, on_conflict, on_no_conflict, turn}
use Rattle.assign.proofs.Lists.{get_or_in}
use Rattle.learning.specs.FirstUip as Uip
use Rattle.watching.specs.Watching.{Conflict}
use Rattle.watching.specs.Propagate.{Finished, quiet, clash}
use Rattle.watching.proofs.Forced.{advance_searching}
use Rattle.watching.specs.Result.{Rested, Clashed}
use Rattle.watching.proofs.Result.{propagated}
use Rattle.ends.specs.Credit.{Ongoing}
use Rattle.ends.proofs.Cases.{conflict_cases, no_conflict_cases}
use Rattle.options.specs.Numbers.{phase_number}
use Rattle.activity.specs.Activities.{decay_sized}
use Rattle.state.specs.declared.Config.{Config}
use Rattle.state.specs.declared.State.{State}
use Rattle.state.specs.Still.{Still, Has, Beside, state_at, config_of}
use Rattle.learn.specs.Learned as learning
use Rattle.learn.specs.Learned.{Learned, learnt_of}
use Rattle.learn.specs.Adding.{Backable, Back, Full, Backs, learned_backable, learned_step}
use Rattle.decide.specs.declared.Decision.{Decision}
use Rattle.decide.specs.declared.Decision.TheVariants.{Decided, Complete, Failed}
use Rattle.decide.specs.Deciding.{Decides}
use Rattle.propagate.specs.View.{Gives}
use Rattle.search.specs.declared.Solver.{Solver}
use Rattle.search.specs.declared.Status.{Status}
use Rattle.search.specs.declared.Conflicts.{Conflicts}
use Rattle.search.specs.Held.{solver_at, turn_of, still_refuted, on_decision, Conflicting, Running, Kept, Turned}

pub kept_then : {x x₁ x₂ : Solver} → Kept x x₁ → Kept x₁ x₂ → Kept x x₂
kept_then k l = record { config = l.config ∙ k.config; counted = l.counted ∙ k.counted }

-- ---- after a conflict

-- how many conflicts there are then
abbrev pub one_more : Conflicts → Conflicts
one_more n = record { solve = n.solve + 1; search = n.search }

abbrev pub both_more : Conflicts → Conflicts
both_more n = record { solve = n.solve + 1; search = n.search + 1 }

module _ (x : Solver) (n : Conflicts) (confl : ℕ) (c : Conflicting x confl) where
  abbrev here : model.Turn
  here = on_conflict (config_of x.state.config) n.solve n.search (solver_at x) confl

  -- at level 0
  pub refutes : decision_level x.state.trail.vars ≡ 0
      → Turned (on_conflict (config_of x.state.config) n.solve n.search (solver_at x) confl) x x (one_more n) (some Status.False)
  refutes z =
      record {
        is =
            conflict_cases (λ t. turn_of x (one_more n) (some Status.False) ≡ t) (config_of x.state.config) n.solve n.search (solver_at x) confl
            (λ _.
            ap (λ (j : ℕ). model.ends (record { solver = solver_at x; conflicts = j; status = model.FALSE x.state.finals.items })) (add-one n.solve)
            ∙ ap (λ (f : List ℕ). model.ends (record { solver = solver_at x; conflicts = suc n.solve; status = model.FALSE f })) c.still.idle.final)
            (λ d e. absurd (omega (arith, z, d))) (λ d y e. absurd (omega (arith, z, d)));
        left = still_refuted c.still;
        kept = record { config = refl; counted = refl };
      }

  -- above it
  module _ (d : 0 < decision_level x.state.trail.vars) where
    -- what the analysis asks
    pub analysable : learning.Conflicting x.state x.activity confl
    analysable = record { still = c.still; conflict = c.conflict d; sized = c.sized }

    module _ {s₁ : State} {a₁ : Activity} {level : ℕ} (l : Learned x.state s₁ x.activity a₁ confl level) where
      -- what the way back asks
      pub backable : Backable s₁ level
      backable = learned_backable x.state s₁ x.activity a₁ confl level l (c.conflict d)

      abbrev learnt : analysis.Learnt
      learnt = learnt_of x.state x.activity confl

      abbrev added : Option ms.State
      added = add_learnt_and_backtrack (config_of x.state.config) (state_at x.state) learnt.clause learnt.level

      stays : (t : model.Turn)
          → (added ≡ none → t ≡ model.ends (record { solver = ms.with_activity (solver_at x) learnt.activity; conflicts = suc n.solve; status = model.NO_STORAGE }))
          → ((s : ms.State) → added ≡ some s
          → t ≡ model.goes_on (suc n.solve) (suc n.search) (record { state = s; activity = var_decay_activity learnt.activity }))
          → t ≡ here
      stays t f h =
          conflict_cases (λ u. t ≡ u) (config_of x.state.config) n.solve n.search (solver_at x) confl (λ z. absurd (omega (arith, z, d))) (λ _ e. f e) (λ _ s e. h s e)

      kept_config : s₁.config ≡ x.state.config
      kept_config = ap (λ (y : State). y.config) l.beside

      -- there is no storage
      pub unstored : {s₂ : State} → Full s₁ s₂ level
          → Turned (on_conflict (config_of x.state.config) n.solve n.search (solver_at x) confl) x (record { state = s₂; activity = a₁ }) (one_more n) (some Status.NoStorage)
      unstored {s₂} o =
          let e : added ≡ none = sym (learned_step x.state s₁ x.activity a₁ confl level l) ∙ o.is in
          record {
            is =
                stays (turn_of (record { state = s₂; activity = a₁ }) (one_more n) (some Status.NoStorage))
                (λ _.
                ap (λ (j : ℕ). model.ends (record { solver = record { state = state_at s₂; activity = a₁ }; conflicts = j; status = model.NO_STORAGE })) (add-one n.solve)
                ∙ ap (λ (y : ms.State). model.ends (record { solver = record { state = y; activity = a₁ }; conflicts = suc n.solve; status = model.NO_STORAGE })) (ap (λ (y : State). state_at y) o.same ∙ l.has.state)
                ∙ ap (λ (v : Activity). model.ends (record { solver = record { state = state_at x.state; activity = v }; conflicts = suc n.solve; status = model.NO_STORAGE })) l.activity)
                (λ s f. let z : ◌≡◌ {A = ℕ} 0 1 = cc in absurd (omega arith));
            left = subst Still (sym o.same) l.has.still;
            kept = record { config = ap (λ (y : State). y.config) o.same ∙ kept_config; counted = l.sized };
          }

      -- the clause is learnt
      pub learns : {s₂ : State} {a₂ : Activity} → Back s₁ s₂ level → a₂ ≡ var_decay_activity a₁
          → Turned (on_conflict (config_of x.state.config) n.solve n.search (solver_at x) confl) x (record { state = s₂; activity = a₂ }) (both_more n) none
      learns {s₂} {a₂} o v =
          let e : added ≡ some o.state = sym (learned_step x.state s₁ x.activity a₁ confl level l) ∙ o.is in
          record {
            is =
                stays (turn_of (record { state = s₂; activity = a₂ }) (both_more n) none)
                (λ f. let z : ◌≡◌ {A = ℕ} 0 1 = cc in absurd (omega arith))
                (λ s f.
                let q : state_at s₂ ≡ s = o.has.state ∙ cc in
                ap (λ (j : ℕ). model.goes_on j (n.search + 1) (record { state = state_at s₂; activity = a₂ })) (add-one n.solve)
                ∙ ap (λ (j : ℕ). model.goes_on (suc n.solve) j (record { state = state_at s₂; activity = a₂ })) (add-one n.search)
                ∙ ap (λ (y : ms.State). model.goes_on (suc n.solve) (suc n.search) (record { state = y; activity = a₂ })) q
                ∙ ap (λ (y : Activity). model.goes_on (suc n.solve) (suc n.search) (record { state = s; activity = y })) (v ∙ ap var_decay_activity l.activity));
            left = o.has.still;
            kept = record { config = o.beside.config ∙ kept_config; counted = ap (λ (y : Activity). length y.activities) v ∙ decay_sized a₁ ∙ l.sized };
          }

-- which way it went
pub full_of : {T E : Type 0} {s s' : State} {level : ℕ} (r : Result T E) → is_err r ≡ true → Backs s s' level r → Full s s' level
full_of (Ok v) e b = absurd (true≢false (sym e))
full_of (Err v) e b = b

pub back_of : {T E : Type 0} {s s' : State} {level : ℕ} (r : Result T E) → is_err r ≡ false → Backs s s' level r → Back s s' level
back_of (Ok v) e b = b
back_of (Err v) e b = absurd (true≢false e)

-- ---- without one

-- what a decision comes to
abbrev pub status_then : Decision → Option Status
status_then Decided = none
status_then Complete = some Status.True
status_then Failed = some Status.False

module _ (x : Solver) (ps : List ℕ) (n : Conflicts) (budget nof : ℕ) where
  -- a restart, or the budget is spent
  pub halts : (nof ≤ n.search) ⊎ ((n.search < nof) × (budget ≤ n.solve)) → {s₁ : State} → Has s₁ (cancel_until (phase_number x.state.config.phase) (state_at x.state) 0) → Beside x.state s₁
      → Turned (on_no_conflict (config_of x.state.config) ps budget nof n.solve n.search (solver_at x)) x (record { state = s₁; activity = x.activity }) n (some Status.Undef)
  halts t {s₁} h b =
      record {
        is =
            no_conflict_cases (λ u. turn_of (record { state = s₁; activity = x.activity }) n (some Status.Undef) ≡ u) (config_of x.state.config) ps budget nof n.solve n.search (solver_at x)
            (λ _. ap (λ (s : ms.State). model.ends (record { solver = record { state = s; activity = x.activity }; conflicts = n.solve; status = model.UNDEF })) h.state)
            (λ p q. absurd (never t p q));
        left = h.still;
        kept = record { config = b.config; counted = refl };
      }
    where
      never : (nof ≤ n.search) ⊎ ((n.search < nof) × (budget ≤ n.solve)) → n.search < nof → n.solve < budget → ⊥
      never (inl h) p q = omega arith
      never (inr h) p q = omega (arith, h.1)

  -- as the definition has it
  decides : (d : dec.Decision)
      → on_decision n.solve n.search (solver_at x) d
      ≡ (elim d [
        | dec.decided s ↦ model.goes_on n.solve n.search (with_state (solver_at x) s)
        | dec.complete s ↦ model.ends (record { solver = with_state (solver_at x) s; conflicts = n.solve; status = model.TRUE })
        | dec.failed s f ↦ model.ends (record { solver = with_state (solver_at x) s; conflicts = n.solve; status = model.FALSE f })
      ])
  decides (dec.decided s) = refl
  decides (dec.complete s) = refl
  decides (dec.failed s f) = refl

  decided : (r : Decision) (s₁ : State) → Decides (dec.decide x.activity.activities ps (state_at x.state)) x.state s₁ r
      → Turned (on_decision n.solve n.search (solver_at x) (dec.decide x.activity.activities ps (state_at x.state))) x (record { state = s₁; activity = x.activity }) n (status_then r)
  decided Decided s₁ d =
      record { is = ap (on_decision n.solve n.search (solver_at x)) d.is; left = d.settled.0; kept = record { config = d.same.config; counted = refl } }
  decided Complete s₁ d =
      record { is = ap (on_decision n.solve n.search (solver_at x)) d.is; left = d.settled.0; kept = record { config = d.same.config; counted = refl } }
  decided Failed s₁ d =
      record { is = ap (on_decision n.solve n.search (solver_at x)) d.is; left = d.settled.0; kept = record { config = d.same.config; counted = refl } }

  -- neither
  pub goes : n.search < nof → n.solve < budget → {r : Decision} {s₁ : State} → Decides (dec.decide x.activity.activities ps (state_at x.state)) x.state s₁ r
      → Turned (on_no_conflict (config_of x.state.config) ps budget nof n.solve n.search (solver_at x)) x (record { state = s₁; activity = x.activity }) n (status_then r)
  goes p q {r} {s₁} d =
      let k = decided r s₁ d in
      record {
        is =
            no_conflict_cases (λ u. turn_of (record { state = s₁; activity = x.activity }) n (status_then r) ≡ u) (config_of x.state.config) ps budget nof n.solve n.search (solver_at x)
            (λ t. absurd (never t)) (λ _ _. k.is ∙ decides (dec.decide x.activity.activities ps (state_at x.state)));
        left = k.left;
        kept = k.kept;
      }
    where
      never : (nof ≤ n.search) ⊎ (budget ≤ n.solve) → ⊥
      never (inl h) = omega arith
      never (inr h) = omega arith

-- ---- propagation

-- above level 0, the false clause can be analysed
clash_conflict : {cfg : Script.Config} {c : ℕ} {s : ms.State} → Conflict cfg c s → 0 < decision_level s.vars → Uip.Conflict cfg.variables s.store s.vars c
clash_conflict {cfg} {c} {s} k d =
    let two = (k.falsified.formed.store.proper (clause_at s.store c) (get_or_in s.store.clauses c [] k.falsified.stored)).two in
    record {
      assignment = k.falsified.formed.vars;
      falsified = k.falsified.falses;
      deep = d;
      top = (get_or (clause_at s.store c) 0 0, get_or_in (clause_at s.store c) 0 0 (omega arith), k.first);
    }

module _ {cfg : Script.Config} {ps : List ℕ} {s : ms.State} (o : Ongoing cfg ps s) where
  finished_clash : (r : prop.Propagated) (c : ℕ) → Finished (Rested cfg s) (Clashed cfg s) r → r.conflict ≡ some c → 0 < decision_level r.state.vars
      → Uip.Conflict cfg.variables r.state.store r.state.vars c
  finished_clash r c (quiet s' h q) e d = let z : ◌≡◌ {A = ℕ} 0 1 = cc in absurd (omega arith)
  finished_clash r c (clash c' s' h) e d =
      let q : c' ≡ c = cc in
      subst (Uip.Conflict cfg.variables s'.store s'.vars) q (clash_conflict h.conflict d)

  finished_quiet : (r : prop.Propagated) → Finished (Rested cfg s) (Clashed cfg s) r → r.conflict ≡ none → Ongoing cfg ps r.state
  finished_quiet r (quiet s' h q) e = record { searching = advance_searching cfg ps s s' h.advance h.watching.formed o.searching; watching = h.watching }
  finished_quiet r (clash c' s' h) e = let z : ◌≡◌ {A = ℕ} 0 1 = cc in absurd (omega arith)

module _ (cfg : Script.Config) (ps : List ℕ) (budget nof a b : ℕ) (y : ms.Solver) where
  turn_clash : (c : ℕ) → (propagate cfg.variables y.state).conflict ≡ some c
      → on_conflict cfg a b (with_state y (propagate cfg.variables y.state).state) c ≡ turn cfg ps budget nof a b y
  unfolding turn
  turn_clash c e = rw (e, turn)

  turn_quiet : (propagate cfg.variables y.state).conflict ≡ none
      → on_no_conflict cfg ps budget nof a b (with_state y (propagate cfg.variables y.state).state) ≡ turn cfg ps budget nof a b y
  unfolding turn
  turn_quiet e = rw (e, turn)

-- after `propagate`
module _ (ps : List ℕ) (x : Solver) (u : Running ps x) {s₁ : State} {r : Option ℕ} (p : Gives x.state s₁ (propagate x.state.config.vars (state_at x.state)) r) where
  abbrev cfg : Script.Config
  cfg = config_of x.state.config

  abbrev o : prop.Propagated
  o = propagate x.state.config.vars (state_at x.state)

  abbrev x₁ : Solver
  x₁ = record { state = s₁; activity = x.activity }

  finished : Finished (Rested (config_of x.state.config) (state_at x.state)) (Clashed (config_of x.state.config) (state_at x.state)) o
  finished = propagated cfg (omega (arith, u.still.sized.room)) (state_at x.state) u.ongoing.watching

  counted_then : length x.activity.activities ≡ s₁.config.vars
  counted_then = u.counted ∙ sym (ap (λ (g : Config). g.vars) p.beside.config)

  module _ {c : ℕ} (t : r ≡ some c) where
    clashes : o.conflict ≡ some c
    clashes = p.conflict ∙ t

    -- what comes next asks
    pub clash_asks : Conflicting (record { state = s₁; activity = x.activity }) c
    clash_asks =
        record {
          still = p.has.still;
          conflict =
              subst (λ (g : Config). 0 < decision_level s₁.trail.vars → Uip.Conflict g.vars (state_at s₁).store s₁.trail.vars c) (sym p.beside.config)
              (subst (λ (s : ms.State). 0 < decision_level s.vars → Uip.Conflict x.state.config.vars s.store s.vars c) (sym p.has.state)
              (finished_clash u.ongoing o c finished clashes));
          sized = counted_then;
        }

    pub clash_turned : (budget nof : ℕ) (n : Conflicts) {n₂ : Conflicts} {x₂ : Solver} {t' : Option Status}
        → Turned (on_conflict (config_of s₁.config) n.solve n.search (solver_at (record { state = s₁; activity = x.activity })) c) (record { state = s₁; activity = x.activity }) x₂ n₂ t'
        → Turned (turn (config_of x.state.config) ps budget nof n.solve n.search (solver_at x)) x x₂ n₂ t'
    clash_turned budget nof n k =
        record {
          is =
              k.is
              ∙ ap (λ (g : Config). on_conflict (config_of g) n.solve n.search (solver_at x₁) c) p.beside.config
              ∙ ap (λ (s : ms.State). on_conflict cfg n.solve n.search (with_state (solver_at x) s) c) p.has.state
              ∙ turn_clash cfg ps budget nof n.solve n.search (solver_at x) c clashes;
          left = k.left;
          kept = kept_then (record { config = p.beside.config; counted = refl }) k.kept;
        }

  module _ (t : r ≡ none) where
    rests : o.conflict ≡ none
    rests = p.conflict ∙ t

    -- the search may go on
    pub rest_running : Running ps (record { state = s₁; activity = x.activity })
    rest_running =
        record {
          still = p.has.still;
          ongoing = rw p.beside.config (subst (Ongoing cfg ps) (sym p.has.state) (finished_quiet u.ongoing o finished rests));
          counted = counted_then;
          assumable = rw p.beside.config u.assumable;
        }

    pub rest_turned : (budget nof : ℕ) (n : Conflicts) {n₂ : Conflicts} {x₂ : Solver} {t' : Option Status}
        → Turned (on_no_conflict (config_of s₁.config) ps budget nof n.solve n.search (solver_at (record { state = s₁; activity = x.activity }))) (record { state = s₁; activity = x.activity }) x₂ n₂ t'
        → Turned (turn (config_of x.state.config) ps budget nof n.solve n.search (solver_at x)) x x₂ n₂ t'
    rest_turned budget nof n k =
        record {
          is =
              k.is
              ∙ ap (λ (g : Config). on_no_conflict (config_of g) ps budget nof n.solve n.search (solver_at x₁)) p.beside.config
              ∙ ap (λ (s : ms.State). on_no_conflict cfg ps budget nof n.solve n.search (with_state (solver_at x) s)) p.has.state
              ∙ turn_quiet cfg ps budget nof n.solve n.search (solver_at x) rests;
          left = k.left;
          kept = kept_then (record { config = p.beside.config; counted = refl }) k.kept;
        }
