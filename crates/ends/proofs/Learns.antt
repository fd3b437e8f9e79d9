-- Rule 5 after a conflict: a clause is stored or a unit put at level 0, a level at least is left; or there is no room.
use Rattle.std.specs.Prelude.{◌≡◌, Bool, true, false, ℕ, suc, ◌≤◌, ◌<◌, length, get_or}
use Rattle.std.proofs.Common.{ap, sym, ◌∙◌, subst, arith}
use mathlib.Core.List.{List, [], ◌∷◌}
use Rattle.std.specs.Prelude.{None as none, Some as some}
use Rattle.model.specs.Lit.{neg, no_reason}
use Rattle.model.specs.Script.{Config}
use Rattle.model.specs.State.{Store, VarState, State, Solver, level_lit, decision_level, clause_at}
use Rattle.model.specs.Store.{has_room}
use Rattle.model.specs.Trail.{cancel_until}
use Rattle.model.specs.Analyze.{backtrack_level, analyze}
use Rattle.model.specs.Search.{add_learnt_and_backtrack}
use Rattle.lawbase.specs.Basics.{◌∈◌, neg-neg}
use Rattle.lawbase.specs.WellFormed.{Proper}
use Rattle.assign.proofs.Lists.{get_or_in}
use Rattle.assign.proofs.Enqueue.{enqueue_limits}
use Rattle.assign.proofs.Back.{cancel_store, cancel_level}
use Rattle.assign.specs.Searching.{Searching}
use Rattle.assign.specs.Learn.{Asserting, with_unit, with_learnt}
use Rattle.assign.proofs.Learn.{learn_unit, learn_cases, room_index, searching_unit, searching_learnt}
use Rattle.learning.specs.Analyzed.{Analyzed}
use Rattle.learning.proofs.Analyzed.{analyze_law}
use Rattle.watching.proofs.Store.{room, room_back}
use Rattle.watching.proofs.Attach.{attach_length, attach_stored}
use Rattle.watching.proofs.Covered.{level_neg}
use Rattle.watching.specs.Watching.{Conflict}
use Rattle.watching.specs.Moves.{Returning}
use Rattle.watching.proofs.MoreMoves.{with_unit_watching, with_learnt_watching}
use Rattle.ends.specs.Fixed.{fixed}
use Rattle.ends.proofs.Fixed.{fixed_enqueue, fixed-unit, fixed_cancel}
use Rattle.ends.specs.Credit.{Ongoing}
use Rattle.ends.proofs.Credit.{credit_less}
use Rattle.ends.specs.Learns.{Backjump, Full, no_room, Learns, learns}

not_both : {b : Bool} → b ≡ true → b ≡ false → ⊥
not_both {b} t f =
    let z : ◌≡◌ {A = ℕ} 0 1 = cc in
    omega arith

pub jump_full : {cfg : Config} {ps : List ℕ} {s : State} {c : List ℕ} → Backjump cfg ps s c none → Full cfg s.store c
jump_full (no_room f) = f

pub jump_learns : {cfg : Config} {ps : List ℕ} {s s' : State} {c : List ℕ} → Backjump cfg ps s c (some s') → Learns cfg ps s s'
jump_learns (learns s' l r) = l

module _ {cfg : Config} (small : cfg.max_clauses ≤ no_reason) {ps : List ℕ} {s : State} (r : Searching cfg ps s) (h : Returning cfg s) (uip : ℕ) where
  unit_learns : Asserting s.vars 0 uip [] → 0 < decision_level s.vars → Learns cfg ps s (with_unit cfg.phase s uip)
  unit_learns a d =
      let o : Ongoing cfg ps (with_unit cfg.phase s uip) = record { searching = searching_unit r uip a; watching = with_unit_watching h uip a } in
      let s₀ = cancel_until cfg.phase s 0 in
      let l : decision_level s₀.vars ≤ 0 = cancel_level cfg.phase s 0 h.formed.vars in
      let f : fixed (with_unit cfg.phase s uip).vars ≡ suc (fixed s.vars) =
      fixed-unit s₀.vars uip no_reason (omega arith) ∙ ap suc (fixed_cancel cfg.phase s 0 h.formed.vars) in
      let c : length (with_unit cfg.phase s uip).store.clauses ≡ length s.store.clauses =
      ap (λ (st : Store). length st.clauses) (cancel_store cfg.phase s 0) in
      record {
        ongoing = o;
        less = credit_less s o.searching.formed (omega arith) (omega arith) (omega arith);
        shallower = omega (arith, ap length (enqueue_limits s₀.vars uip no_reason));
      }

  clause_learns : (level second : ℕ) (more : List ℕ) → Asserting s.vars level uip (second ∷ more) → level_lit s.vars second ≡ level
      → level < decision_level s.vars → has_room cfg s.store (uip ∷ second ∷ more) ≡ true → Proper cfg.variables (uip ∷ second ∷ more)
      → Learns cfg ps s (with_learnt cfg.phase s level uip (second ∷ more))
  clause_learns level second more a e d room proper =
      let s' = with_learnt cfg.phase s level uip (second ∷ more) in
      let o : Ongoing cfg ps s' =
      record {
        searching = searching_learnt r uip level (second ∷ more) a (room_index cfg s.store (uip ∷ second ∷ more) small room)
            (attach_stored cfg s.store (uip ∷ second ∷ more) h.formed.store room proper);
        watching = with_learnt_watching h uip small level second more a e room proper;
      } in
      let s₁ = cancel_until cfg.phase s level in
      let l : decision_level s₁.vars ≤ level = cancel_level cfg.phase s level h.formed.vars in
      let f : fixed s.vars ≤ fixed s'.vars =
      omega (arith, fixed_enqueue s₁.vars uip (length s.store.clauses), fixed_cancel cfg.phase s level h.formed.vars) in
      let c : length s'.store.clauses ≡ suc (length s.store.clauses) =
      attach_length s₁.store (uip ∷ second ∷ more) ∙ ap (λ (st : Store). suc (length st.clauses)) (cancel_store cfg.phase s level) in
      record {
        ongoing = o;
        less = credit_less s o.searching.formed (omega arith) f (omega arith);
        shallower = omega (arith, ap length (enqueue_limits s₁.vars uip (length s.store.clauses)));
      }

  backjump_rest : (level : ℕ) (rest : List ℕ) → Asserting s.vars level uip rest → level ≡ backtrack_level s.vars rest
      → level < decision_level s.vars → (2 ≤ length (uip ∷ rest) → Proper cfg.variables (uip ∷ rest))
      → Backjump cfg ps s (uip ∷ rest) (add_learnt_and_backtrack cfg s (uip ∷ rest) level)
  unfolding backtrack_level
  backjump_rest level [] a e d proper =
      rw (learn_unit cfg s uip level)
      (learns (with_unit cfg.phase s uip) (unit_learns (subst (λ k. Asserting s.vars k uip []) e a) (omega arith)) (λ t. absurd (omega arith)))
  backjump_rest level (second ∷ more) a e d proper =
      learn_cases cfg s uip level (Backjump cfg ps s (uip ∷ second ∷ more)) second more
      (λ f. no_room (record { two = omega arith; full = λ m. not_both (room_back cfg s.store (uip ∷ second ∷ more) m) f }))
      (λ t. learns (with_learnt cfg.phase s level uip (second ∷ more))
      (clause_learns level second more a (sym e) d t (proper (omega arith)))
      (λ _. room cfg s.store (uip ∷ second ∷ more) t))

asserting : {n : ℕ} {st : Store} {vs : VarState} {clause : List ℕ} {level : ℕ} (a : Analyzed n st vs clause level)
    → Asserting vs level (neg a.uip) a.rest
asserting {vs = vs} a =
    record {
      false_first = rw neg-neg a.uip_set;
      above = omega (arith, level_neg vs a.uip, a.uip_top, a.lower);
      false_rest = a.falsified;
      low = a.below;
    }

-- the clause learnt, above level 0
pub conflict_analyzed : {cfg : Config} {confl : ℕ} (x : Solver) → Conflict cfg confl x.state → 0 < decision_level x.state.vars
    → Analyzed cfg.variables x.state.store x.state.vars (analyze cfg x confl).clause (analyze cfg x confl).level
conflict_analyzed {cfg} {confl} x h d =
    analyze_law cfg x confl
    (record {
      assignment = h.falsified.formed.vars;
      falsified = h.falsified.falses;
      deep = d;
      top = (get_or (clause_at x.state.store confl) 0 0, first_in, h.first);
    })
  where
    proper : Proper cfg.variables (clause_at x.state.store confl)
    proper =
        h.falsified.formed.store.proper (clause_at x.state.store confl) (get_or_in x.state.store.clauses confl [] h.falsified.stored)

    first_in : get_or (clause_at x.state.store confl) 0 0 ∈ clause_at x.state.store confl
    first_in = get_or_in (clause_at x.state.store confl) 0 0 (omega (arith, proper.two))

pub backjump : {cfg : Config} → cfg.max_clauses ≤ no_reason → {ps : List ℕ} {s : State} → Searching cfg ps s → Returning cfg s
    → {clause : List ℕ} {level : ℕ} → Analyzed cfg.variables s.store s.vars clause level
    → Backjump cfg ps s clause (add_learnt_and_backtrack cfg s clause level)
backjump {cfg} small {ps} {s} r h {clause} {level} a =
    subst (λ c. Backjump cfg ps s c (add_learnt_and_backtrack cfg s c level)) (sym a.is)
    (backjump_rest small r h (neg a.uip) level a.rest (asserting a) a.second a.lower
    (λ t. record { two = t; range = rw a.is at a.range; distinct = rw a.is at a.distinct }))
