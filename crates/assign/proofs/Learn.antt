-- A learnt clause: after the way back its first literal is unset and the others are false, so it is a reason of its first literal.
use Rattle.std.specs.Prelude.{◌≡◌, ◌≢◌, Bool, true, false, ◌&&◌, List, [], ◌∷◌, ◌++◌, ℕ, ◌+◌, ◌*◌, ◌≤◌, ◌<◌, length, get_or, ltb, leb}
use Rattle.std.proofs.Math.Path.{refl}
use Rattle.std.proofs.Common.{ap, subst, arith, length-append, ltb-true}
use Rattle.std.specs.Prelude.{Option, None as none, Some as some}
use Rattle.std.proofs.lemmas.List.{get_or_at}
use Rattle.model.specs.Lit.{neg, no_reason}
use Rattle.model.specs.Script.{Config}
use Rattle.model.specs.State.{Store, VarState, State, level_lit}
use Rattle.model.specs.Store.{stored_literals, has_room, attach_clause}
use Rattle.model.specs.Trail.{unchecked_enqueue, cancel_until}
use Rattle.model.specs.Search.{add_learnt_and_backtrack}
use Rattle.lawbase.specs.Basics.{◌∈◌, Every, on?, split, neg-neg, neg_range, var-neg}
use Rattle.lawbase.specs.WellFormed.{Assignment, Stored, WellFormed}
use Rattle.assign.proofs.Lists.{in_reverse}
use Rattle.assign.specs.Reading.{Unset}
use Rattle.assign.proofs.Reading.{unset-neg, trail_range}
use Rattle.assign.proofs.Enqueue.{enqueue_length, enqueue_fixed, enqueue_implied}
use Rattle.assign.proofs.Clauses.{clauses_more}
use Rattle.assign.proofs.Back.{cancel_store, cancel_assignment, cancel_level, cancel_kept, cancel_unset, cancel_formed}
use Rattle.assign.proofs.Levels.{levels_enqueue}
use Rattle.assign.proofs.Assumed.{assumed_enqueue}
use Rattle.assign.specs.Searching.{Searching}
use Rattle.assign.proofs.Searching.{searching_cancel}
use Rattle.assign.specs.Learn.{Asserting, with_unit, with_learnt}

-- the new clause's first literal, with the clause as its reason
pub learnt_enqueue : {n : ℕ} {cs : List (List ℕ)} {vs : VarState} → Assignment n cs vs → (uip : ℕ) (rest : List ℕ) → uip < 2 * n → Unset vs uip
    → Every (λ q. neg q ∈ vs.trail) rest → length cs ≢ no_reason
    → Assignment n (cs ++ ((uip ∷ rest) ∷ [])) (unchecked_enqueue vs uip (length cs))
learnt_enqueue {cs = cs} {vs = vs} w uip rest h u f d =
    let e = get_or_at cs (uip ∷ rest) [] [] (length cs) refl in
    enqueue_implied (clauses_more w ((uip ∷ rest) ∷ [])) uip (length cs) h u d
    (record {
      stored = omega (arith, length-append cs ((uip ∷ rest) ∷ []));
      first = rw e;
      false_rest = rw e (λ q i. in_reverse (f q i));
    })

level_neg : (vs : VarState) (l : ℕ) → level_lit vs (neg l) ≡ level_lit vs l
level_neg vs l = ap (λ v. get_or vs.levels v 0) (var-neg l)

pub uip_range : {n : ℕ} {cs : List (List ℕ)} {vs : VarState} {level uip : ℕ} {rest : List ℕ} → Assignment n cs vs → Asserting vs level uip rest
    → uip < 2 * n
uip_range {n = n} {uip = uip} w a = subst (λ l. l < 2 * n) (neg-neg uip) (neg_range (neg uip) n (trail_range w (neg uip) a.false_first))

-- after the way back
module _ (phase : ℕ) (s : State) (level : ℕ) {n : ℕ} {cs : List (List ℕ)} (w : Assignment n cs s.vars) (uip : ℕ) {rest : List ℕ} (a : Asserting s.vars level uip rest) where
  pub uip-unset : Unset (cancel_until phase s level).vars uip
  uip-unset =
      unset-neg (cancel_until phase s level).vars uip
      (cancel_unset phase s level w (neg uip) a.false_first (rw (level_neg s.vars uip) a.above))

  pub rest_false : Every (λ q. neg q ∈ (cancel_until phase s level).vars.trail) rest
  rest_false q i = cancel_kept phase s level w (neg q) (a.false_rest q i) (rw (level_neg s.vars q) (a.low q i))

  -- back, and the first literal set by the new clause
  pub learnt_assignment : length cs ≢ no_reason
      → Assignment n (cs ++ ((uip ∷ rest) ∷ [])) (unchecked_enqueue (cancel_until phase s level).vars uip (length cs))
  learnt_assignment d = learnt_enqueue (cancel_assignment phase s level w) uip rest (uip_range w a) uip-unset rest_false d

-- a unit goes to level 0
pub unit_assignment : (phase : ℕ) (s : State) {n : ℕ} {cs : List (List ℕ)} → Assignment n cs s.vars → (uip : ℕ) → Asserting s.vars 0 uip []
    → Assignment n cs (unchecked_enqueue (cancel_until phase s 0).vars uip no_reason)
unit_assignment phase s w uip a =
    enqueue_fixed (cancel_assignment phase s 0 w) uip (uip_range w a) (uip-unset phase s 0 w uip a) (omega (arith, cancel_level phase s 0 w))

-- ---- the step as `search` does it

module _ (cfg : Config) (s : State) (uip level : ℕ) where
  pub learn_unit : add_learnt_and_backtrack cfg s (uip ∷ []) level ≡ some (with_unit cfg.phase s uip)
  unfolding add_learnt_and_backtrack
  learn_unit = refl

  -- the cases for a clause of two literals or more
  pub learn_cases : (P : Option State → Type 0) (second : ℕ) (more : List ℕ) → (has_room cfg s.store (uip ∷ second ∷ more) ≡ false → P none)
      → (has_room cfg s.store (uip ∷ second ∷ more) ≡ true → P (some (with_learnt cfg.phase s level uip (second ∷ more))))
      → P (add_learnt_and_backtrack cfg s (uip ∷ second ∷ more) level)
  unfolding add_learnt_and_backtrack
  learn_cases P second more f g =
      split (on? (has_room cfg s.store (uip ∷ second ∷ more))) (λ e. rw (e, add_learnt_and_backtrack) (g e))
      (λ e. rw (e, add_learnt_and_backtrack) (f e))

and_left : (a b : Bool) → (a && b) ≡ true → a ≡ true
and_left true b e = refl
and_left false b e = e

-- room for one more: the new index is no `no_reason`
pub room_index : (cfg : Config) (st : Store) (c : List ℕ) → cfg.max_clauses ≤ no_reason → has_room cfg st c ≡ true → length st.clauses ≢ no_reason
unfolding has_room
room_index cfg st c h e z =
    omega (
      arith,
      ltb-true (length st.clauses) cfg.max_clauses
          (and_left (ltb (length st.clauses) cfg.max_clauses) (leb (stored_literals st.clauses + length c) cfg.max_literals) e),
    )

attach_clauses : (st : Store) (c : List ℕ) → (attach_clause st c).clauses ≡ st.clauses ++ (c ∷ [])
unfolding attach_clause
attach_clauses st c = refl

module _ {cfg : Config} {s : State} (w : WellFormed cfg s) (uip : ℕ) where
  pub unit_formed : Asserting s.vars 0 uip [] → WellFormed cfg (with_unit cfg.phase s uip)
  unit_formed a =
      let s₀ = cancel_until cfg.phase s 0 in
      let w₀ = cancel_formed w cfg.phase 0 in
      record {
        store = w₀.store;
        vars = rw (cancel_store cfg.phase s 0) (unit_assignment cfg.phase s w.vars uip a);
        phases = w₀.phases;
        signs = w₀.signs;
        qhead = omega (arith, w₀.qhead, enqueue_length s₀.vars uip no_reason);
      }

  -- the store with the new clause is asked for: its watches are no matter of the assignment
  pub learnt_formed : (level : ℕ) (rest : List ℕ) → Asserting s.vars level uip rest → length s.store.clauses ≢ no_reason
      → Stored cfg (attach_clause s.store (uip ∷ rest)) → WellFormed cfg (with_learnt cfg.phase s level uip rest)
  learnt_formed level rest a d st =
      let s₁ = cancel_until cfg.phase s level in
      let w₁ = cancel_formed w cfg.phase level in
      let e = cancel_store cfg.phase s level in
      record {
        store = rw e st;
        vars = rw (e, attach_clauses s.store (uip ∷ rest)) (learnt_assignment cfg.phase s level w.vars uip a d);
        phases = w₁.phases;
        signs = w₁.signs;
        qhead = omega (arith, w₁.qhead, enqueue_length s₁.vars uip (length s.store.clauses));
      }

module _ {cfg : Config} {ps : List ℕ} {s : State} (r : Searching cfg ps s) where
  module _ (uip : ℕ) where
    pub searching_unit : Asserting s.vars 0 uip [] → Searching cfg ps (with_unit cfg.phase s uip)
    searching_unit a =
        let v = searching_cancel r cfg.phase 0 in
        let w₀ = cancel_assignment cfg.phase s 0 r.formed.vars in
        record {
          formed = unit_formed r.formed uip a;
          levels = levels_enqueue (length ps) (cancel_until cfg.phase s 0).vars uip no_reason v.levels;
          assumed = assumed_enqueue w₀ ps uip no_reason (uip_range r.formed.vars a) (uip-unset cfg.phase s 0 r.formed.vars uip a)
              (λ z h b. absurd (omega (arith, cancel_level cfg.phase s 0 r.formed.vars)))
              v.assumed;
        }

    pub searching_learnt : (level : ℕ) (rest : List ℕ) → Asserting s.vars level uip rest → length s.store.clauses ≢ no_reason
        → Stored cfg (attach_clause s.store (uip ∷ rest)) → Searching cfg ps (with_learnt cfg.phase s level uip rest)
    searching_learnt level rest a d st =
        let v = searching_cancel r cfg.phase level in
        let w₁ = cancel_assignment cfg.phase s level r.formed.vars in
        record {
          formed = learnt_formed r.formed uip level rest a d st;
          levels = levels_enqueue (length ps) (cancel_until cfg.phase s level).vars uip (length s.store.clauses) v.levels;
          assumed = assumed_enqueue w₁ ps uip (length s.store.clauses) (uip_range r.formed.vars a)
              (uip-unset cfg.phase s level r.formed.vars uip a)
              (λ z h b. absurd (d z))
              v.assumed;
        }
