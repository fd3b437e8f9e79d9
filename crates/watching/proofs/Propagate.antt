-- `propagate`: what its turns keep holds at the end; the queue is empty then, and the number of turns is enough.
use Rattle.std.specs.Prelude.{◌≡◌, Bool, true, false, List, [], ltb, length, get_or}
use Rattle.std.proofs.Math.Path.{refl, sym}
use Rattle.std.proofs.Common.{ap, subst, append-nil, arith, ltb-true, ltb-false, le-ltb}
use Rattle.std.specs.Prelude.{None as none, Some as some}
use Prim.Native.Nat.{ℕ, suc, zero, ◌+◌, ◌≤◌, ◌<◌}
use Rattle.std.proofs.lemmas.List.{set-get_or}
use Rattle.model.specs.Lit.{no_reason}
use Rattle.model.specs.Script.{Config}
use Rattle.model.specs.State.{Watch, State, with_watches, with_qhead}
use Rattle.model.specs.Propagate.{Propagated, propagate}
use Rattle.lawbase.specs.WellFormed.{WellFormed}
use Rattle.assign.proofs.Lists.{get_or_in}
use Rattle.assign.proofs.Reading.{trail_length}
use Rattle.assign.proofs.Searching.{qhead_formed}
use Rattle.watching.specs.Reorder.{listed}
use Rattle.watching.specs.Visit.{Ended, walked, clashed, Walking, Falsified}
use Rattle.watching.proofs.Visit.{walk}
use Rattle.watching.proofs.Visited.{visit_formed}
use Rattle.watching.specs.Propagate.{Finished, turn, quiet, Turned, onward, halted, clash, taken}

-- the watches of a literal, put back, change nothing
pub listed_same : (s : State) (p : ℕ) → listed p (get_or s.store.watches p []) s ≡ s
listed_same s p = ap (λ (ws : List (List Watch)). with_watches s ws) (set-get_or s.store.watches p [])

module _ (cfg : Config) (P : State → Type 0) (Q : ℕ → State → Type 0) (formed : (s : State) → P s → WellFormed cfg s)
    (step : (s : State) → P s → s.qhead < length s.vars.trail → Turned P Q s.qhead (turn s)) where
  finish_step : (k : ℕ) (s : State) → P s → cfg.variables ≤ s.qhead + suc k
      → ((s' : State) → P s' → cfg.variables ≤ s'.qhead + k → Finished P Q (propagate k s'))
      → (b : Bool) → ltb s.qhead (length s.vars.trail) ≡ b
      → Finished P Q
      (elim b [
        | false ↦ record { state = s; conflict = none }
        | true ↦ elim (turn s).conflict [ none ↦ propagate k (turn s).state | some c ↦ turn s ]
      ])
  finish_step k s h le rec false e = quiet s h (omega (arith, (formed s h).qhead, ltb-false s.qhead (length s.vars.trail) e))
  finish_step k s h le rec true e = go (turn s) (step s h (ltb-true s.qhead (length s.vars.trail) e))
    where
      go : (r : Propagated) → Turned P Q s.qhead r → Finished P Q (elim r.conflict [ none ↦ propagate k r.state | some c ↦ r ])
      go r (onward s' h' e') = rec s' h' (omega arith)
      go r (halted c s' q) = clash c s' q

  -- the induction over `propagate`, with enough turns
  pub finish : (k : ℕ) (s : State) → P s → cfg.variables ≤ s.qhead + k → Finished P Q (propagate k s)
  unfolding propagate
  finish zero s h le = quiet s h (omega (arith, (formed s h).qhead, trail_length (formed s h).vars))
  finish (suc k) s h le =
      finish_step k s h le (finish k) (ltb s.qhead (length s.vars.trail)) refl

  enough_step : (j k : ℕ) (s : State) → P s → cfg.variables ≤ s.qhead + suc j → cfg.variables ≤ s.qhead + suc k
      → ((s' : State) → P s' → cfg.variables ≤ s'.qhead + j → cfg.variables ≤ s'.qhead + k → propagate j s' ≡ propagate k s')
      → (b : Bool) → ltb s.qhead (length s.vars.trail) ≡ b
      → ◌≡◌ {A = Propagated} (elim b [
        | false ↦ record { state = s; conflict = none }
        | true ↦ elim (turn s).conflict [ none ↦ propagate j (turn s).state | some c ↦ turn s ]
      ]) (elim b [
        | false ↦ record { state = s; conflict = none }
        | true ↦ elim (turn s).conflict [ none ↦ propagate k (turn s).state | some c ↦ turn s ]
      ])
  enough_step j k s h l m rec false e = refl
  enough_step j k s h l m rec true e = go (turn s) (step s h (ltb-true s.qhead (length s.vars.trail) e))
    where
      go : (r : Propagated) → Turned P Q s.qhead r
          → ◌≡◌ {A = Propagated} (elim r.conflict [ none ↦ propagate j r.state | some c ↦ r ])
          (elim r.conflict [ none ↦ propagate k r.state | some c ↦ r ])
      go r (onward s' h' e') = rec s' h' (omega arith) (omega arith)
      go r (halted c s' q) = refl

  -- with no literal left in the queue nothing is done
  idle : (k : ℕ) (s : State) → length s.vars.trail ≤ s.qhead → propagate k s ≡ record { state = s; conflict = none }
  unfolding propagate
  idle zero s le = refl
  idle (suc k) s le = rw (le-ltb s.qhead (length s.vars.trail) le, propagate)

  -- more turns give the same
  pub enough : (j k : ℕ) (s : State) → P s → cfg.variables ≤ s.qhead + j → cfg.variables ≤ s.qhead + k → propagate j s ≡ propagate k s
  unfolding propagate
  enough zero k s h l m = sym (idle k s (omega (arith, (formed s h).qhead, trail_length (formed s h).vars)))
  enough (suc j) zero s h l m = idle (suc j) s (omega (arith, (formed s h).qhead, trail_length (formed s h).vars))
  enough (suc j) (suc k) s h l m =
      enough_step j k s h l m (enough j k) (ltb s.qhead (length s.vars.trail)) refl

-- ---- well-formed

turn_ended : (cfg : Config) (p q : ℕ) (r : Propagated) → Ended p (Walking cfg p (q + 1)) (Falsified cfg) r → Turned (WellFormed cfg) (Falsified cfg) q r
turn_ended cfg p q r (walked kept s v) =
    onward (listed p kept s) (subst (λ l. WellFormed cfg (listed p l s)) (append-nil kept) v.formed) (omega (arith, v.head))
turn_ended cfg p q r (clashed c s f) = halted c s f

-- the head of the queue, at the start of its turn
pub turn_starts : (cfg : Config) (s : State) → WellFormed cfg s → s.qhead < length s.vars.trail
    → Walking cfg (taken s) (s.qhead + 1) [] (get_or s.store.watches (taken s) []) (with_qhead s (s.qhead + 1))
turn_starts cfg s h lt =
    record {
      formed = subst (λ x. WellFormed cfg x) (sym (listed_same (with_qhead s (s.qhead + 1)) (taken s))) (qhead_formed h (s.qhead + 1) (omega arith));
      on = get_or_in s.vars.trail s.qhead 0 lt;
      head = refl;
    }

module _ (cfg : Config) (small : cfg.max_clauses ≤ no_reason) where
  pub turn_formed : (s : State) → WellFormed cfg s → s.qhead < length s.vars.trail → Turned (WellFormed cfg) (Falsified cfg) s.qhead (turn s)
  turn_formed s h lt =
      turn_ended cfg (taken s) s.qhead (turn s)
      (walk (taken s) (Walking cfg (taken s) (s.qhead + 1)) (Falsified cfg) (visit_formed cfg small (taken s) (s.qhead + 1))
      (get_or s.store.watches (taken s) []) [] (with_qhead s (s.qhead + 1)) (turn_starts cfg s h lt))

  -- `propagate` keeps what is well-formed, and empties the queue or finds a false clause
  pub propagate_formed : (k : ℕ) (s : State) → WellFormed cfg s → cfg.variables ≤ s.qhead + k → Finished (WellFormed cfg) (Falsified cfg) (propagate k s)
  propagate_formed = finish cfg (WellFormed cfg) (Falsified cfg) (λ s h. h) turn_formed

  -- a turn for each variable is enough
  pub propagate_enough : (k : ℕ) (s : State) → WellFormed cfg s → cfg.variables ≤ k → propagate k s ≡ propagate cfg.variables s
  propagate_enough k s h le = enough cfg (WellFormed cfg) (Falsified cfg) (λ s h. h) turn_formed k cfg.variables s h (omega arith) (omega arith)
