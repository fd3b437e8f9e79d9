-- `propagate` sets unit consequences only, and reorders the stored clauses.
use Rattle.std.specs.Prelude.{◌≡◌, refl, ◌≢◌, List, [], ◌∷◌, ◌++◌, reverse, ℕ, ◌+◌, ◌*◌, ◌≤◌, ◌<◌, length, get_or, set, take}
use Rattle.std.proofs.Common.{ap, sym, ◌∙◌, subst, append_assoc, append-nil, arith, length-set, get_or-set_same, get_or-set_other}
use mathlib.Core.List.Memᴰ.{append_right as in_right}
use mathlib.Core.List.Memᴰ.{head as here}
use Rattle.model.specs.Lit.{no_reason}
use Rattle.model.specs.Script.{Config}
use Rattle.model.specs.State.{Watch, VarState, State, level_lit, reason_lit, decision_level, with_qhead}
use Rattle.model.specs.Trail.{unchecked_enqueue}
use Rattle.model.specs.Propagate.{Looked, look, Propagated, propagate}
use Rattle.lawbase.specs.Basics.{◌∈◌, every_nil, every_append, every_one, split, same?}
use Rattle.lawbase.specs.WellFormed.{Implies, Assignment, WellFormed}
use Rattle.assign.specs.Reading.{Unset}
use Rattle.assign.proofs.Reading.{place}
use Rattle.assign.proofs.Reasons.{reason_implies}
use Rattle.assign.proofs.Enqueue.{enqueue_trail, enqueue_limits, new_level, new_reason}
use Rattle.assign.specs.Levels.{Levels}
use Rattle.assign.proofs.Levels.{levels_enqueue}
use Rattle.assign.specs.Assumed.{Assumed}
use Rattle.assign.proofs.Assumed.{assumed_enqueue}
use Rattle.assign.specs.Searching.{Searching}
use Rattle.watching.specs.Permuted.{Permuted, same, chain}
use Rattle.watching.specs.Look.{Outcome, blocker_true, first_true, new_found, all_false, unit}
use Rattle.watching.proofs.Look.{outcome}
use Rattle.watching.specs.Reorder.{listed, Looking}
use Rattle.watching.proofs.Reorder.{looking}
use Rattle.watching.specs.Visit.{Ended, walked, clashed, Next, Walking, Falsified}
use Rattle.watching.proofs.Visit.{first_of, rest_of, looked_clause, moved_clause, whole, new_permuted, seconded_assignment, no_reason-clause, unit-implies, unit-unset, walk}
use Rattle.watching.proofs.Visited.{visit_formed}
use Rattle.watching.specs.Propagate.{taken, turn, Turned, onward, halted, Finished, quiet, clash}
use Rattle.watching.proofs.Propagate.{turn_starts, finish}
use Rattle.watching.specs.Covered.{Grown}
use Rattle.watching.proofs.Cover.{enqueue_grown}
use Rattle.watching.specs.Forced.{Reordered, Forced, as_is, one_more, Extended, Advance, Advancing}

-- ---- clauses

pub reordered_set : {cs cs' : List (List ℕ)} → Reordered cs cs' → (r : ℕ) (d : List ℕ) → r < length cs' → Permuted (get_or cs' r []) d
    → Reordered cs (set cs' r d)
reordered_set {cs} {cs'} h r d hr q =
    record {
      count = length-set cs' r d ∙ h.count;
      each = λ k.
          split (same? k r)
          (λ e. subst (λ j. Permuted (get_or cs j []) (get_or (set cs' r d) j [])) (sym e)
          (subst (λ c. Permuted (get_or cs r []) c) (sym (get_or-set_same cs' r d [] hr)) (chain (h.each r) q)))
          (λ n. subst (λ c. Permuted (get_or cs k []) c) (sym (get_or-set_other cs' r k d [] n)) (h.each k));
    }

-- ---- literals

-- what each such step keeps
pub forced_keeps : (n : ℕ) (P : VarState → Type 0)
    → ((vs : VarState) (cs : List (List ℕ)) → Assignment n cs vs → (p from : ℕ) → p < 2 * n → Unset vs p → from ≢ no_reason
    → Implies cs from p (reverse vs.trail) → P vs → P (unchecked_enqueue vs p from))
    → {vs vs' : VarState} → Forced n vs vs' → P vs → P vs'
forced_keeps n P step as_is h = h
forced_keeps n P step (one_more {vs' = vs''} f cs w p from hp u d i) h = step vs'' cs w p from hp u d i (forced_keeps n P step f h)

extended_more : (n : ℕ) (vs vs' : VarState) (cs : List (List ℕ)) → Assignment n cs vs' → (p from : ℕ) → p < 2 * n → Unset vs' p → from ≢ no_reason
    → Extended vs vs' → Extended vs (unchecked_enqueue vs' p from)
extended_more n vs vs' cs w p from hp u d e =
    record {
      added = e.added ++ (p ∷ []);
      trail = enqueue_trail vs' p from ∙ ap (λ t. t ++ (p ∷ [])) e.trail ∙ append_assoc vs.trail e.added (p ∷ []);
      limits = enqueue_limits vs' p from ∙ e.limits;
      grown = record {
        on = λ x i. grown.on x (e.grown.on x i);
        level = λ x i. grown.level x (e.grown.on x i) ∙ e.grown.level x i;
        reason = λ x i. grown.reason x (e.grown.on x i) ∙ e.grown.reason x i;
      };
      reasons = every_append (λ q. reason_lit (unchecked_enqueue vs' p from) q ≢ no_reason) e.added
          (λ q i z. e.reasons q i (sym (grown.reason q (old q i)) ∙ z))
          (every_one (λ q. reason_lit (unchecked_enqueue vs' p from) q ≢ no_reason) (λ z. d (sym (new_reason w p from hp) ∙ z)));
      levels = every_append (λ q. level_lit (unchecked_enqueue vs' p from) q ≡ decision_level vs) e.added
          (λ q i. grown.level q (old q i) ∙ e.levels q i)
          (every_one (λ q. level_lit (unchecked_enqueue vs' p from) q ≡ decision_level vs) (new_level w p from hp ∙ ap length e.limits));
    }
  where
    grown : Grown vs' (unchecked_enqueue vs' p from)
    grown = enqueue_grown w p from u

    old : (q : ℕ) → q ∈ e.added → q ∈ vs'.trail
    old q i = subst (λ t. q ∈ t) (sym e.trail) (in_right vs.trail i)

pub extended : {n : ℕ} {vs vs' : VarState} → Forced n vs vs' → Extended vs vs'
extended {n} {vs} f =
    forced_keeps n (Extended vs) (λ vs' cs w p from hp u d i e. extended_more n vs vs' cs w p from hp u d e) f
    (record {
      added = [];
      trail = sym (append-nil vs.trail);
      limits = refl;
      grown = record { on = λ x i. i; level = λ x i. refl; reason = λ x i. refl };
      reasons = every_nil (λ p. reason_lit vs p ≢ no_reason);
      levels = every_nil (λ p. level_lit vs p ≡ decision_level vs);
    })

-- each literal added is the unit consequence of its reason, by literals set before it
pub added_implied : {n : ℕ} {cs : List (List ℕ)} {vs vs' : VarState} (w : Assignment n cs vs') (e : Extended vs vs') (p : ℕ)
    (i : p ∈ e.added) (j : p ∈ vs'.trail)
    → Implies cs (reason_lit vs' p) p (reverse (take (place w p j).at vs'.trail))
added_implied w e p i j = reason_implies w p j (e.reasons p i)

-- ---- the walk, and `propagate`

pub advance_none : (n : ℕ) (s : State) → Advance n s s
advance_none n s = record { forced = as_is; reordered = record { count = refl; each = λ r. same }; ok = refl; phases = refl }

visit_advances : (cfg : Config) → cfg.max_clauses ≤ no_reason → (s₀ : State) (p q : ℕ) (kept : List Watch) (w : Watch) (rest : List Watch) (s : State)
    → Advancing cfg s₀ p q kept (w ∷ rest) s → Next p (Advancing cfg s₀ p q) (λ c. Advance cfg.variables s₀) kept w rest (look p w s)
visit_advances cfg small s₀ p q kept w rest s v =
    let k = looking cfg p kept w rest s v.walking.formed v.walking.on in
    go k (look p w s) (outcome p w s (first_of k) (rest_of k) k.shape.shape) (visit_formed cfg small p q kept w rest s v.walking)
  where
    seconded : (k : Looking cfg p w s) → Reordered s₀.store.clauses (set s.store.clauses w.clause (looked_clause k))
    seconded k = reordered_set v.advance.reordered w.clause (looked_clause k) k.inside k.shape.permuted

    go : (k : Looking cfg p w s) (o : Looked) → Outcome p w s (first_of k) (rest_of k) o → Next p (Walking cfg p q) (Falsified cfg) kept w rest o
        → Next p (Advancing cfg s₀ p q) (λ c. Advance cfg.variables s₀) kept w rest o
    go k o (blocker_true e) f = record { walking = f; advance = v.advance }
    go k o (first_true e) f =
        record {
          walking = f;
          advance = record { forced = v.advance.forced; reordered = seconded k; ok = v.advance.ok; phases = v.advance.phases };
        }
    go k o (new_found j hj t n) f =
        record {
          walking = f;
          advance = record {
            forced = v.advance.forced;
            reordered = reordered_set v.advance.reordered w.clause (moved_clause k j) k.inside (new_permuted k j hj);
            ok = v.advance.ok;
            phases = v.advance.phases;
          };
        }
    go k o (all_false r n) f = record { forced = v.advance.forced; reordered = seconded k; ok = v.advance.ok; phases = v.advance.phases }
    go k o (unit r t n) f =
        record {
          walking = f;
          advance = record {
            forced = one_more v.advance.forced (set s.store.clauses w.clause (looked_clause k))
                (seconded_assignment v.walking k) (first_of k) w.clause
                ((whole k).range (first_of k) (here refl)) (unit-unset v.walking k t n)
                (no_reason-clause v.walking k small)
                (unit-implies v.walking k r);
            reordered = seconded k;
            ok = v.advance.ok;
            phases = v.advance.phases;
          };
        }

-- between two turns
record Advanced (cfg : Config) (s₀ s : State) : Type 0 where
  formed : WellFormed cfg s
  advance : Advance cfg.variables s₀ s

turn_ended : (cfg : Config) (s₀ : State) (p q : ℕ) (r : Propagated) → Ended p (Advancing cfg s₀ p (q + 1)) (λ c. Advance cfg.variables s₀) r
    → Turned (Advanced cfg s₀) (λ c. Advance cfg.variables s₀) q r
turn_ended cfg s₀ p q r (walked kept s v) =
    onward (listed p kept s)
    (record {
      formed = subst (λ l. WellFormed cfg (listed p l s)) (append-nil kept) v.walking.formed;
      advance = record { forced = v.advance.forced; reordered = v.advance.reordered; ok = v.advance.ok; phases = v.advance.phases };
    })
    (omega (arith, v.walking.head))
turn_ended cfg s₀ p q r (clashed c s f) = halted c s f

module _ (cfg : Config) (small : cfg.max_clauses ≤ no_reason) where
  turn_advances : (s₀ s : State) → Advanced cfg s₀ s → s.qhead < length s.vars.trail
      → Turned (Advanced cfg s₀) (λ c. Advance cfg.variables s₀) s.qhead (turn s)
  turn_advances s₀ s h lt =
      turn_ended cfg s₀ (taken s) s.qhead (turn s)
      (walk (taken s) (Advancing cfg s₀ (taken s) (s.qhead + 1)) (λ c. Advance cfg.variables s₀) (visit_advances cfg small s₀ (taken s) (s.qhead + 1))
      (get_or s.store.watches (taken s) []) [] (with_qhead s (s.qhead + 1))
      (record {
        walking = turn_starts cfg s h.formed lt;
        advance = record { forced = h.advance.forced; reordered = h.advance.reordered; ok = h.advance.ok; phases = h.advance.phases };
      }))

  -- unit consequences are set, clauses reordered, and nothing else but the watches and the queue's head changes
  pub propagate_advance : (k : ℕ) (s : State) → WellFormed cfg s → cfg.variables ≤ s.qhead + k → Advance cfg.variables s (propagate k s).state
  propagate_advance k s h le =
      go (propagate k s)
      (finish cfg (Advanced cfg s) (λ c. Advance cfg.variables s) (λ x y. y.formed) (turn_advances s) k s
      (record { formed = h; advance = advance_none cfg.variables s }) le)
    where
      go : (r : Propagated) → Finished (Advanced cfg s) (λ c. Advance cfg.variables s) r → Advance cfg.variables s r.state
      go r (quiet x y e) = y.advance
      go r (clash c x y) = y

-- a solve's state stays one
pub advance_searching : (cfg : Config) (ps : List ℕ) (s₀ s : State) → Advance cfg.variables s₀ s → WellFormed cfg s → Searching cfg ps s₀
    → Searching cfg ps s
advance_searching cfg ps s₀ s a w r =
    record {
      formed = w;
      levels = forced_keeps cfg.variables (λ vs. Levels (length ps) vs)
          (λ vs cs x p from hp u d i h. levels_enqueue (length ps) vs p from h) a.forced r.levels;
      assumed = forced_keeps cfg.variables (λ vs. Assumed ps vs)
          (λ vs cs x p from hp u d i h. assumed_enqueue x ps p from hp u (λ z m b. absurd (d z)) h) a.forced r.assumed;
    }
