-- The state of a solve under assumptions, and the steps that keep it so.
use Rattle.std.specs.Prelude.{◌≡◌, ◌≢◌, Bool, List, reverse, ℕ, ◌+◌, ◌*◌, ◌-◌, ◌≤◌, ◌<◌, length}
use mathlib.Core.List.Memᴰ.{cast}
use Rattle.std.proofs.Common.{arith}
use Rattle.model.specs.Lit.{no_reason}
use Rattle.model.specs.Script.{Config}
use Rattle.model.specs.State.{Store, VarState, State, level_lit, reason_lit, decision_level, with_ok, with_store, with_vars, with_qhead}
use Rattle.model.specs.Trail.{unchecked_enqueue, cancel_until}
use Rattle.lawbase.specs.Basics.{◌∈◌}
use Rattle.lawbase.specs.WellFormed.{Implies, Assignment, Stored, WellFormed}
use Rattle.assign.proofs.Lists.{get_or_in}
use Rattle.assign.specs.Reading.{Unset}
use Rattle.assign.proofs.Reading.{trail_level}
use Rattle.assign.proofs.Enqueue.{enqueue_length, enqueue_implied}
use Rattle.assign.proofs.Back.{cancel_formed}
use Rattle.assign.proofs.Levels.{levels_start, levels_enqueue, levels_cancel, levels_bound}
use Rattle.assign.proofs.Assumed.{assumed_start, assumed_enqueue, assumed_cancel}
use Rattle.assign.specs.Searching.{Searching}

-- ---- one field set

module _ {cfg : Config} {s : State} (w : WellFormed cfg s) where
  pub ok_formed : (b : Bool) → WellFormed cfg (with_ok s b)
  ok_formed b = record { store = w.store; vars = w.vars; phases = w.phases; signs = w.signs; qhead = w.qhead }

  pub qhead_formed : (q : ℕ) → q ≤ length s.vars.trail → WellFormed cfg (with_qhead s q)
  qhead_formed q h = record { store = w.store; vars = w.vars; phases = w.phases; signs = w.signs; qhead = h }

  pub vars_formed : (vs : VarState) → Assignment cfg.variables s.store.clauses vs → length s.vars.trail ≤ length vs.trail
      → WellFormed cfg (with_vars s vs)
  vars_formed vs v h = record { store = w.store; vars = v; phases = w.phases; signs = w.signs; qhead = omega (arith, w.qhead) }

  pub store_formed : (st : Store) → Stored cfg st → Assignment cfg.variables st.clauses s.vars → WellFormed cfg (with_store s st)
  store_formed st h v = record { store = h; vars = v; phases = w.phases; signs = w.signs; qhead = w.qhead }

-- ---- a solve

pub searching_start : {cfg : Config} {s : State} → WellFormed cfg s → (assumptions : List ℕ) → decision_level s.vars ≡ 0 → Searching cfg assumptions s
searching_start {s = s} w ps z = record { formed = w; levels = levels_start (length ps) s.vars z; assumed = assumed_start w.vars ps z }

module _ {cfg : Config} {ps : List ℕ} {s : State} (r : Searching cfg ps s) where
  -- each level is opened by an assumption, or has a variable of its own
  pub searching_bound : decision_level s.vars ≤ cfg.variables + length ps
  searching_bound = levels_bound r.formed.vars (length ps) r.levels

  -- while there are no more levels than assumptions, each decision is one of them
  pub searching_decision : decision_level s.vars ≤ length ps → (p : ℕ) → p ∈ s.vars.trail → reason_lit s.vars p ≡ no_reason
      → 0 < level_lit s.vars p → p ∈ ps
  searching_decision h p i e l =
      let b = trail_level r.formed.vars p i in
      cast (r.assumed.decision p i e l (omega arith)) (get_or_in ps (level_lit s.vars p - 1) 0 (omega arith))

  pub searching_cancel : (phase level : ℕ) → Searching cfg ps (cancel_until phase s level)
  searching_cancel phase level =
      record {
        formed = cancel_formed r.formed phase level;
        levels = levels_cancel phase s level r.formed.vars (length ps) r.levels;
        assumed = assumed_cancel phase s level r.formed.vars ps r.assumed;
      }

  pub searching_ok : (b : Bool) → Searching cfg ps (with_ok s b)
  searching_ok b = record { formed = ok_formed r.formed b; levels = r.levels; assumed = r.assumed }

  pub searching_qhead : (q : ℕ) → q ≤ length s.vars.trail → Searching cfg ps (with_qhead s q)
  searching_qhead q h = record { formed = qhead_formed r.formed q h; levels = r.levels; assumed = r.assumed }

  pub searching_store : (st : Store) → Stored cfg st → Assignment cfg.variables st.clauses s.vars → Searching cfg ps (with_store s st)
  searching_store st h v = record { formed = store_formed r.formed st h v; levels = r.levels; assumed = r.assumed }

  -- a unit consequence of a stored clause
  pub searching_implied : (p from : ℕ) → p < 2 * cfg.variables → Unset s.vars p → from ≢ no_reason
      → Implies s.store.clauses from p (reverse s.vars.trail) → Searching cfg ps (with_vars s (unchecked_enqueue s.vars p from))
  searching_implied p from h u d i =
      record {
        formed = vars_formed r.formed (unchecked_enqueue s.vars p from) (enqueue_implied r.formed.vars p from h u d i)
            (omega (arith, enqueue_length s.vars p from));
        levels = levels_enqueue (length ps) s.vars p from r.levels;
        assumed = assumed_enqueue r.formed.vars ps p from h u (λ z a b. absurd (d z)) r.assumed;
      }
