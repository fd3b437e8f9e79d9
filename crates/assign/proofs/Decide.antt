-- Every state that `decide` yields is well-formed, and a decision opens a level.
use Rattle.std.specs.Prelude.{◌≡◌, refl, true, false, List, [], ◌∷◌, ◌++◌, get_or, drop, Float}
use Rattle.std.proofs.Math.Path.{ap}
use Rattle.std.proofs.Common.{sym, ◌∙◌, subst, length-drop, drop-cons}
use Rattle.std.specs.Prelude.{Option, None as none, Some as some}
use Prim.Native.Nat.{ℕ, suc, ◌*◌, ◌-◌, ◌≤◌, ◌<◌}
use native.Mathlib.Omega.{arith}
use Rattle.std.proofs.Math.ListN.{length}
use Rattle.model.specs.Lit.{neg, no_reason, is_true, is_false}
use Rattle.model.specs.State.{State, decision_level, with_vars}
use Rattle.model.specs.Script.{Config}
use Rattle.model.specs.Trail.{unchecked_enqueue, new_decision_level}
use Rattle.model.specs.Final.{analyze_final}
use Rattle.model.specs.Decide.{pick_branch_lit, Decision, decided, complete, failed, open_level, assume}
use Rattle.lawbase.specs.Basics.{◌∈◌, Every, on?, split}
use Rattle.lawbase.specs.WellFormed.{Assignment, WellFormed}
use Rattle.assign.proofs.Lists.{index, get_or_in}
use Rattle.assign.proofs.Reading.{on_is_true, on_is_false, unset_of}
use Rattle.assign.proofs.Enqueue.{enqueue_trail, enqueue_length, enqueue_limits, enqueue_decided}
use Rattle.assign.proofs.Level.{level_more, level_new, level_trail, open_assignment}
use Rattle.assign.proofs.Levels.{levels_empty, levels_open}
use Rattle.assign.proofs.Assumed.{assumed_empty, assumed_open}
use Rattle.assign.specs.Searching.{Searching}
use Rattle.assign.specs.Pick.{Free}
use Rattle.assign.proofs.Pick.{branch_some, branch_none}
use Rattle.assign.specs.Decide.{Outcome, Decided, Failed}

-- ---- the cases

pub assume_nil : (P : Decision → Type 0) (act : List Float) (s : State) → (pick_branch_lit act s ≡ none → P (complete s))
    → ((p : ℕ) → pick_branch_lit act s ≡ some p → P (decided (open_level s p))) → P (assume act [] s)
unfolding assume
assume_nil P act s f g = go (pick_branch_lit act s) refl
  where
    go : (o : Option ℕ) → pick_branch_lit act s ≡ o → P (assume act [] s)
    go none e = rw (e, assume) (f e)
    go (some p) e = rw (e, assume) (g p e)

pub assume-cons : (P : Decision → Type 0) (act : List Float) (p : ℕ) (ps : List ℕ) (s : State)
    → (is_true s.vars.values p ≡ true → P (assume act ps (with_vars s (new_decision_level s.vars))))
    → (is_true s.vars.values p ≡ false → is_false s.vars.values p ≡ true → P (failed s (analyze_final s.store s.vars (neg p))))
    → (is_true s.vars.values p ≡ false → is_false s.vars.values p ≡ false → P (decided (open_level s p)))
    → P (assume act (p ∷ ps) s)
unfolding assume
assume-cons P act p ps s f g h =
    split (on? (is_true s.vars.values p)) (λ a. rw (a, assume) (f a))
    (λ a. split (on? (is_false s.vars.values p)) (λ b. rw (a, b, assume) (g a b)) (λ b. rw (a, b, assume) (h a b)))

-- ---- levels opened

module _ (s : State) (p : ℕ) where
  pub open_length : length (open_level s p).vars.trail ≡ suc (length s.vars.trail)
  unfolding open_level
  open_length = enqueue_length (new_decision_level s.vars) p no_reason ∙ ap (λ t. suc (length t)) (level_trail s.vars)

  pub open_trail : (open_level s p).vars.trail ≡ s.vars.trail ++ (p ∷ [])
  unfolding open_level
  open_trail = enqueue_trail (new_decision_level s.vars) p no_reason ∙ ap (λ t. t ++ (p ∷ [])) (level_trail s.vars)

  pub open_deeper : decision_level (open_level s p).vars ≡ suc (decision_level s.vars)
  unfolding open_level
  open_deeper = ap length (enqueue_limits (new_decision_level s.vars) p no_reason) ∙ level_more s.vars

module _ {cfg : Config} {s : State} (w : WellFormed cfg s) where
  pub opened-empty : WellFormed cfg (with_vars s (new_decision_level s.vars))
  opened-empty =
      record { store = w.store; vars = open_assignment w.vars; phases = w.phases; signs = w.signs; qhead = rw (level_trail s.vars) w.qhead }

  module _ (p : ℕ) (f : Free cfg.variables s p) where
    pub open_assigned : Assignment cfg.variables s.store.clauses (unchecked_enqueue (new_decision_level s.vars) p no_reason)
    unfolding new_decision_level
    open_assigned =
        let m = level_more s.vars in
        let e : decision_level (new_decision_level s.vars) - 1 ≡ decision_level s.vars = omega arith in
        enqueue_decided (open_assignment w.vars) p f.range f.unset (omega arith) (rw e (level_new s.vars))

    pub open_formed : WellFormed cfg (open_level s p)
    unfolding open_level
    open_formed =
        record { store = w.store; vars = open_assigned; phases = w.phases; signs = w.signs; qhead = omega (arith, open_length s p, w.qhead) }

-- ---- what it comes to

-- from behind an empty level
pub outcome_back : (cfg : Config) (ps : List ℕ) (s : State) (d : Decision) → Outcome cfg ps (with_vars s (new_decision_level s.vars)) d
    → Outcome cfg ps s d
unfolding new_decision_level
outcome_back cfg ps s (decided s') r =
    record {
      searching = r.searching;
      store = r.store;
      deeper = omega (arith, r.deeper, level_more s.vars);
      literal = r.literal;
      free = record { range = r.free.range; unset = r.free.unset };
      trail = r.trail;
      qhead = r.qhead;
    }
outcome_back cfg ps s (complete s') r =
    record {
      searching = r.searching;
      store = r.store;
      values = r.values;
      trail = r.trail;
      all = r.all;
      assumed = r.assumed;
      qhead = r.qhead;
    }
outcome_back cfg ps s (failed s' final) r =
    record {
      searching = r.searching;
      store = r.store;
      values = r.values;
      trail = r.trail;
      shallow = r.shallow;
      false_on = r.false_on;
      clause = r.clause;
      qhead = r.qhead;
    }

-- the assumption next in turn
pub record Next (assumptions : List ℕ) (k p : ℕ) (ps : List ℕ) : Type 0 where
  pub inside : k < length assumptions
  pub head : get_or assumptions k 0 ≡ p
  pub tail : drop (suc k) assumptions ≡ ps

pub next : (assumptions : List ℕ) (k p : ℕ) (ps : List ℕ) → drop k assumptions ≡ p ∷ ps → Next assumptions k p ps
next l k p ps e =
    let h : k < length l = omega (arith, length-drop k l, ap length e) in
    let d = drop-cons l k 0 h in
    record { inside = h; head = cc; tail = cc }

module _ {cfg : Config} {qs : List ℕ} {s : State} (r : Searching cfg qs s) where
  open_decided : (p : ℕ) → Free cfg.variables s p → (decision_level s.vars < length qs → p ≡ get_or qs (decision_level s.vars) 0)
      → Decided cfg qs s (open_level s p)
  unfolding open_level
  open_decided p f g =
      record {
        searching = record {
          formed = open_formed r.formed p f;
          levels = levels_open (length qs) s.vars p no_reason r.levels;
          assumed = assumed_open r.formed.vars qs p f.range f.unset g r.assumed;
        };
        store = refl;
        deeper = omega (arith, open_deeper s p);
        literal = p;
        free = f;
        trail = open_trail s p;
        qhead = refl;
      }

  pub nil_outcome : (act : List Float) → drop (decision_level s.vars) qs ≡ [] → Outcome cfg qs s (assume act [] s)
  nil_outcome act e =
      let h : length qs ≤ decision_level s.vars = omega (arith, length-drop (decision_level s.vars) qs, ap length e) in
      assume_nil (Outcome cfg qs s) act s
      (λ f.
      record {
        searching = r;
        store = refl;
        values = refl;
        trail = refl;
        all = branch_none r.formed act f;
        assumed = λ p i. let k = index 0 i in subst (λ q. q ∈ s.vars.trail) k.value (r.assumed.true_at k.at k.inside (omega (arith, k.inside))).on;
        qhead = refl;
      })
      (λ p f. open_decided p (branch_some r.formed act p f) (λ b. absurd (omega arith)))

  module _ (range : Every (λ p. p < 2 * cfg.variables) qs) (p : ℕ) (ps : List ℕ) (x : Next qs (decision_level s.vars) p ps) where
    in_range : p < 2 * cfg.variables
    in_range = subst (λ q. q < 2 * cfg.variables) x.head (range (get_or qs (decision_level s.vars) 0) (get_or_in qs (decision_level s.vars) 0 x.inside))

    pub passes : is_true s.vars.values p ≡ true → Searching cfg qs (with_vars s (new_decision_level s.vars))
    passes t =
        let i = on_is_true r.formed.vars p in_range t in
        record {
          formed = opened-empty r.formed;
          levels = levels_empty (length qs) s.vars x.inside r.levels;
          assumed = assumed_empty r.formed.vars qs (λ h. rw x.head i) r.assumed;
        }

    pub falls : is_false s.vars.values p ≡ true → Failed cfg qs s s (analyze_final s.store s.vars (neg p))
    falls f =
        record {
          searching = r;
          store = refl;
          values = refl;
          trail = refl;
          shallow = x.inside;
          false_on = rw x.head (on_is_false r.formed.vars p in_range f);
          clause = rw x.head;
          qhead = refl;
        }

    pub opens : is_true s.vars.values p ≡ false → is_false s.vars.values p ≡ false → Decided cfg qs s (open_level s p)
    opens a b = open_decided p (record { range = in_range; unset = unset_of r.formed.vars p in_range a b }) (λ h. sym x.head)
