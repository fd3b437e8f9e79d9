-- The other steps of a run keep the clauses covered: going back, opening a level, setting a literal, storing a clause.
use Rattle.std.specs.Prelude.{◌≡◌, refl, ◌≢◌, ◌⊎◌, Bool, true, List, [], ◌∷◌, ◌++◌, reverse, ℕ, ◌*◌, ◌≤◌, ◌<◌, get_or, drop}
use Rattle.std.proofs.Common.{ap, sym, ◌∙◌, subst, inl, inr, arith, drop_of_length-le}
use mathlib.Core.List.Memᴰ.{head as here}
use mathlib.Core.List.Memᴰ.{not-nil}
use Rattle.std.proofs.Math.ListN.{length, take, get_or-append, get_or-eq_default as get_or_past}
use Rattle.std.proofs.Math.Seq.{get_or-append_seam}
use Rattle.model.specs.Lit.{var, neg, no_reason}
use Rattle.model.specs.Script.{Config}
use Rattle.model.specs.State.{VarState, State, initial_state, level_lit, reason_lit, decision_level, with_ok, with_store, with_vars}
use Rattle.model.specs.Store.{has_room, attach_clause}
use Rattle.model.specs.Trail.{unchecked_enqueue, new_decision_level, level_end, vars_until, cancel_until}
use Rattle.lawbase.specs.Basics.{◌∈◌, Every, split, less?, var-neg}
use Rattle.lawbase.specs.WellFormed.{Ground, fixed, Assignment, Proper}
use Rattle.assign.proofs.Lists.{in_take}
use Rattle.assign.specs.Reading.{Unset}
use Rattle.assign.proofs.Reading.{unset-fresh, trail_level}
use Rattle.assign.proofs.Enqueue.{enqueue, enqueue_new, enqueue_cases, enqueue_length, new_level, new_reason}
use Rattle.assign.proofs.Clauses.{clauses_more}
use Rattle.assign.proofs.Cancel.{until_length, until_old, until_kept, until_levels, until_reasons}
use Rattle.assign.specs.Back.{cut}
use Rattle.assign.proofs.Back.{cancel_low, cut_formed}
use Rattle.assign.proofs.Decide.{opened-empty}
use Rattle.assign.proofs.Initial.{initial_formed}
use Rattle.assign.proofs.Searching.{ok_formed, vars_formed, store_formed}
use Rattle.assign.specs.Learn.{Asserting}
use Rattle.assign.proofs.Learn.{room_index, learnt_enqueue}
use Rattle.watching.proofs.Attach.{attach_stored, attach_clauses}
use Rattle.watching.specs.Covered.{Witness, Covered, Tie, Tied, Grown}
use Rattle.watching.proofs.Covered.{level_neg, covered_less, covered_grown, covered_more}
use Rattle.watching.specs.Cover.{Queued}
use Rattle.watching.proofs.Cover.{enqueue_grown, enqueue_queued, enqueue_take, tie_grown, two_cases}
use Rattle.watching.specs.Watching.{Watching, Conflict}
use Rattle.watching.proofs.Watching.{below_taken}
use Rattle.watching.specs.Moves.{Returning, learnt_set}

none_left : {x : ℕ} (q : ℕ) (l : List ℕ) → length l ≤ q → x ∈ drop q l → ⊥
none_left {x} q l h i = not-nil (subst (λ m. x ∈ m) (drop_of_length-le l {i = q} h) i)

-- ---- going back

pub watching_returning : {cfg : Config} {s : State} → Watching cfg s → Returning cfg s
watching_returning {cfg} {s} h =
    record {
      formed = h.formed;
      covered = covered_less h.covered (λ r l _ b. below_taken s.vars s.qhead r l h.queued b);
      tied = h.tied;
    }

pub conflict_returning : {cfg : Config} {c : ℕ} {s : State} → Conflict cfg c s → Returning cfg s
conflict_returning h = record { formed = h.falsified.formed; covered = h.covered; tied = h.tied }

module _ {cfg : Config} {s : State} (h : Returning cfg s) (phase level : ℕ) (low : level < decision_level s.vars) where
  queued_cut : Queued (vars_until s.vars level) (level_end s.vars level)
  queued_cut l i =
      absurd (none_left (level_end s.vars level) (vars_until s.vars level).trail (omega (arith, until_length h.formed.vars level low)) i)

  pub same_level : (x : ℕ) → level_lit (vars_until s.vars level) x ≡ level_lit s.vars x
  same_level x = ap (λ l. get_or l (var x) 0) (until_levels s.vars level)

  same_reason : (x : ℕ) → reason_lit (vars_until s.vars level) x ≡ reason_lit s.vars x
  same_reason x = ap (λ l. get_or l (var x) 0) (until_reasons s.vars level)

  pub cut_watching : Watching cfg (cut phase s level)
  cut_watching =
      record {
        formed = cut_formed h.formed phase level low;
        queued = queued_cut;
        covered = record { cover = cover };
        tied = tied;
      }
    where
      cover : (r : ℕ) → r < length s.store.clauses → (x : ℕ) → x ∈ take 2 (get_or s.store.clauses r [])
          → neg x ∈ take (level_end s.vars level) (vars_until s.vars level).trail
          → Witness (vars_until s.vars level) (get_or s.store.clauses r []) (level_lit (vars_until s.vars level) x)
      cover r hr x i d =
          let o = until_old h.formed.vars level low (neg x) (in_take (level_end s.vars level) (vars_until s.vars level).trail d) in
          let k = h.covered.cover r hr x i (o.0, omega (arith, o.1, low)) in
          record {
            literal = k.literal;
            member = k.member;
            set = until_kept h.formed.vars level low k.literal k.set (omega (arith, k.low, o.1, level_neg s.vars x));
            low = omega (arith, k.low, same_level k.literal, same_level x);
          }

      tied : Every (Tied s.store.clauses (vars_until s.vars level)) (vars_until s.vars level).trail
      tied p i z =
          let o = until_old h.formed.vars level low p i in
          let t = h.tied p o.0 (λ e. z (same_reason p ∙ e)) in
          record {
            literal = t.literal;
            member = subst (λ r. t.literal ∈ drop 1 (get_or s.store.clauses r [])) (sym (same_reason p)) t.member;
            set = until_kept h.formed.vars level low (neg t.literal) t.set (omega (arith, t.level, o.1, level_neg s.vars t.literal));
            level = same_level t.literal ∙ t.level ∙ sym (same_level p);
          }

  pub back_watching : Watching cfg (cancel_until phase s level)
  back_watching = subst (λ x. Watching cfg x) (sym (cancel_low phase s level low)) cut_watching

module _ {cfg : Config} {s : State} (h : Returning cfg s) where
  pub returning_ok : (b : Bool) → Returning cfg (with_ok s b)
  returning_ok b = record { formed = ok_formed h.formed b; covered = h.covered; tied = h.tied }

-- ---- levels and literals

module _ {cfg : Config} {s : State} (h : Watching cfg s) where
  pub ok_watching : (b : Bool) → Watching cfg (with_ok s b)
  ok_watching b = record { formed = ok_formed h.formed b; queued = h.queued; covered = h.covered; tied = h.tied }

  -- a level is opened when all is propagated
  pub level_watching : s.qhead ≡ length s.vars.trail → Watching cfg (with_vars s (new_decision_level s.vars))
  unfolding new_decision_level
  level_watching e =
      record {
        formed = opened-empty h.formed;
        queued = λ l i. absurd (none_left s.qhead s.vars.trail (omega arith) i);
        covered = record { cover = cover };
        tied = λ p i z. (let t = h.tied p i z in record { literal = t.literal; member = t.member; set = t.set; level = t.level });
      }
    where
      cover : (r : ℕ) → r < length s.store.clauses → (x : ℕ) → x ∈ take 2 (get_or s.store.clauses r []) → neg x ∈ take s.qhead s.vars.trail
          → Witness (new_decision_level s.vars) (get_or s.store.clauses r []) (level_lit s.vars x)
      cover r hr x i d =
          let k = h.covered.cover r hr x i d in
          record { literal = k.literal; member = k.member; set = k.set; low = k.low }

  -- a literal with a ground, tied to its reason if it has one
  pub enqueue_watching : (p from : ℕ) → p < 2 * cfg.variables → Unset s.vars p
      → Ground s.store.clauses (unchecked_enqueue s.vars p from) p (reverse s.vars.trail)
      → Tied s.store.clauses (unchecked_enqueue s.vars p from) p
      → Watching cfg (with_vars s (unchecked_enqueue s.vars p from))
  enqueue_watching p from hp u g t =
      record {
        formed = vars_formed h.formed (unchecked_enqueue s.vars p from) (enqueue h.formed.vars p from hp u g)
            (omega (arith, enqueue_length s.vars p from));
        queued = enqueue_queued h.formed.vars p from hp u s.qhead h.formed.qhead h.queued;
        covered = covered_less (covered_grown (enqueue_grown h.formed.vars p from u) (λ r l _ d. in_take s.qhead s.vars.trail d) h.covered)
            (λ r l _ d. subst (λ m. l ∈ m) (enqueue_take s.vars p from s.qhead h.formed.qhead) d);
        tied = λ x i.
            split (enqueue_cases s.vars p from x i)
            (λ j. tie_grown (enqueue_grown h.formed.vars p from u) j (h.tied x j))
            (λ e. subst (λ y. Tied s.store.clauses (unchecked_enqueue s.vars p from) y) (sym e) t);
      }

  -- a unit at level 0
  pub fixed_watching : (p : ℕ) → p < 2 * cfg.variables → Unset s.vars p → decision_level s.vars ≡ 0
      → Watching cfg (with_vars s (unchecked_enqueue s.vars p no_reason))
  fixed_watching p hp u z =
      enqueue_watching p no_reason hp u (fixed (new_reason h.formed.vars p no_reason hp) (new_level h.formed.vars p no_reason hp ∙ z))
      (λ n. absurd (n (new_reason h.formed.vars p no_reason hp)))

-- ---- storing a clause

-- the reasons are where they were
pub tie_more : {cs : List (List ℕ)} {vs : VarState} {p : ℕ} (new : List (List ℕ)) → Tied cs vs p → Tied (cs ++ new) vs p
tie_more {cs} {vs} {p} new t z = go (t z) (less? (reason_lit vs p) (length cs))
  where
    go : Tie cs vs p → (reason_lit vs p < length cs) ⊎ (length cs ≤ reason_lit vs p) → Tie (cs ++ new) vs p
    go k (inl l) =
        record {
          literal = k.literal;
          member = subst (λ c. k.literal ∈ drop 1 c) (sym (get_or-append cs new [] (reason_lit vs p) l)) k.member;
          set = k.set;
          level = k.level;
        }
    go k (inr l) = absurd (not-nil (subst (λ c. k.literal ∈ drop 1 c) (get_or_past cs [] {n = reason_lit vs p} l) k.member))

-- a clause whose first two literals are unset
pub attach_watching : {cfg : Config} {s : State} → Watching cfg s → (a b : ℕ) (more : List ℕ) → has_room cfg s.store (a ∷ b ∷ more) ≡ true
    → Proper cfg.variables (a ∷ b ∷ more) → Unset s.vars a → Unset s.vars b
    → Watching cfg (with_store s (attach_clause s.store (a ∷ b ∷ more)))
attach_watching {cfg} {s} h a b more room proper ua ub =
    record {
      formed = store_formed h.formed (attach_clause s.store (a ∷ b ∷ more))
          (attach_stored cfg s.store (a ∷ b ∷ more) h.formed.store room proper)
          (subst (λ cs. Assignment cfg.variables cs s.vars) (sym (attach_clauses s.store (a ∷ b ∷ more)))
          (clauses_more h.formed.vars ((a ∷ b ∷ more) ∷ [])));
      queued = h.queued;
      covered = subst (λ cs. Covered cs s.vars (λ r l. l ∈ take s.qhead s.vars.trail)) (sym (attach_clauses s.store (a ∷ b ∷ more)))
          (covered_more h.covered (a ∷ b ∷ more) (λ x i d. absurd (never x i (in_take s.qhead s.vars.trail d))));
      tied = subst (λ cs. Every (Tied cs s.vars) s.vars.trail) (sym (attach_clauses s.store (a ∷ b ∷ more)))
          (λ p i. tie_more ((a ∷ b ∷ more) ∷ []) (h.tied p i));
    }
  where
    never : (x : ℕ) → x ∈ take 2 (a ∷ b ∷ more) → neg x ∈ s.vars.trail → ⊥
    never x i j =
        split (two_cases i)
        (λ e. unset-fresh h.formed.vars a ua (neg x) j (var-neg x ∙ ap var e))
        (λ e. unset-fresh h.formed.vars b ub (neg x) j (var-neg x ∙ ap var e))

-- a learnt clause: its first literal is set by it, at the level of its second
pub learnt_watching : {cfg : Config} {s : State} → cfg.max_clauses ≤ no_reason → Watching cfg s → (a b : ℕ) (more : List ℕ)
    → has_room cfg s.store (a ∷ b ∷ more) ≡ true → Proper cfg.variables (a ∷ b ∷ more) → Unset s.vars a
    → Every (λ q. neg q ∈ s.vars.trail) (b ∷ more) → level_lit s.vars b ≡ decision_level s.vars
    → Watching cfg (with_store (with_vars s (learnt_set s a)) (attach_clause s.store (a ∷ b ∷ more)))
learnt_watching {cfg} {s} small h a b more room proper u f top =
    record {
      formed = record {
        store = attach_stored cfg s.store (a ∷ b ∷ more) h.formed.store room proper;
        vars = subst (λ cs. Assignment cfg.variables cs (learnt_set s a)) (sym (attach_clauses s.store (a ∷ b ∷ more)))
            (learnt_enqueue h.formed.vars a (b ∷ more) range u f index);
        phases = h.formed.phases;
        signs = h.formed.signs;
        qhead = omega (arith, h.formed.qhead, enqueue_length s.vars a (length s.store.clauses));
      };
      queued = enqueue_queued h.formed.vars a (length s.store.clauses) range u s.qhead h.formed.qhead h.queued;
      covered = subst
          (λ cs. Covered cs (learnt_set s a)
          (λ r l. l ∈ take s.qhead (learnt_set s a).trail))
          (sym (attach_clauses s.store (a ∷ b ∷ more)))
          (covered_more
          (covered_less (covered_grown grown (λ r l _ d. in_take s.qhead s.vars.trail d) h.covered)
          (λ r l _ d. subst (λ m. l ∈ m) (enqueue_take s.vars a (length s.store.clauses) s.qhead h.formed.qhead) d))
          (a ∷ b ∷ more) (λ x i _. own x i));
      tied = subst
          (λ cs. Every (Tied cs (learnt_set s a)) (learnt_set s a).trail)
          (sym (attach_clauses s.store (a ∷ b ∷ more)))
          (λ x i.
          split (enqueue_cases s.vars a (length s.store.clauses) x i)
          (λ j. tie_more ((a ∷ b ∷ more) ∷ []) (tie_grown grown j (h.tied x j)))
          (λ e. subst (λ y. Tied (s.store.clauses ++ ((a ∷ b ∷ more) ∷ [])) (learnt_set s a) y) (sym e) tie));
    }
  where
    range : a < 2 * cfg.variables
    range = proper.range a (here refl)

    index : length s.store.clauses ≢ no_reason
    index = room_index cfg s.store (a ∷ b ∷ more) small room

    grown : Grown s.vars (learnt_set s a)
    grown = enqueue_grown h.formed.vars a (length s.store.clauses) u

    -- the first two literals are of one level
    even : level_lit (learnt_set s a) b ≡ level_lit (learnt_set s a) a
    even =
        sym (level_neg (learnt_set s a) b) ∙ grown.level (neg b) (f b (here refl)) ∙ level_neg s.vars b ∙ top
        ∙ sym (new_level h.formed.vars a (length s.store.clauses) range)

    own : (x : ℕ) → x ∈ take 2 (a ∷ b ∷ more)
        → Witness (learnt_set s a) (a ∷ b ∷ more) (level_lit (learnt_set s a) x)
    own x i =
        record {
          literal = a;
          member = here refl;
          set = enqueue_new s.vars a (length s.store.clauses);
          low = split (two_cases i)
              (λ e. subst (λ y. level_lit (learnt_set s a) a ≤ level_lit (learnt_set s a) y) (sym e) (omega arith))
              (λ e. subst (λ y. level_lit (learnt_set s a) a ≤ level_lit (learnt_set s a) y) (sym e) (omega (arith, even)));
        }

    tie : Tied (s.store.clauses ++ ((a ∷ b ∷ more) ∷ [])) (learnt_set s a) a
    tie z =
        record {
          literal = b;
          member = subst (λ r. b ∈ drop 1 (get_or (s.store.clauses ++ ((a ∷ b ∷ more) ∷ [])) r []))
              (sym (new_reason h.formed.vars a (length s.store.clauses) range))
              (subst (λ c. b ∈ drop 1 c) (sym (get_or-append_seam s.store.clauses (a ∷ b ∷ more) [] [])) (here refl));
          set = grown.on (neg b) (f b (here refl));
          level = even;
        }

-- ---- the steps after a conflict, as `search` does them

module _ {cfg : Config} {s : State} (h : Returning cfg s) (uip : ℕ) where
  pub lower : (level : ℕ) {rest : List ℕ} → Asserting s.vars level uip rest → level < decision_level s.vars
  lower level a = omega (arith, a.above, level_neg s.vars uip, trail_level h.formed.vars (neg uip) a.false_first)

-- ---- the first state

pub initial_watching : (cfg : Config) → Watching cfg (initial_state cfg.variables)
unfolding initial_state
initial_watching cfg =
    record {
      formed = initial_formed cfg;
      queued = λ l i. absurd (not-nil i);
      covered = record { cover = λ r hr. absurd (omega arith) };
      tied = λ p i. absurd (not-nil i);
    }
