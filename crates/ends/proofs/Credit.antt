-- What a conflict takes one of: room for a clause, or a variable that has no value at level 0. Together with the levels still to be opened, it falls
-- with each turn of a search.
use Rattle.std.specs.Prelude.{List, ◌≡◌, ℕ, suc, ◌+◌, ◌≤◌, ◌<◌, length}
use Rattle.std.proofs.Common.{mul-le-mul_right, suc-mul, arith}
use Rattle.model.specs.Script.{Config}
use Rattle.model.specs.State.{State, decision_level}
use Rattle.model.specs.Trail.{cancel_until}
use Rattle.model.specs.Search.{most_conflicts, most_levels, most_turns}
use Rattle.lawbase.specs.WellFormed.{WellFormed}
use Rattle.assign.proofs.Back.{cancel_store}
use Rattle.assign.proofs.Searching.{searching_bound, searching_cancel}
use Rattle.watching.proofs.MoreMoves.{cancel_watching}
use Rattle.ends.specs.Fixed.{fixed}
use Rattle.ends.proofs.Fixed.{fixed_most, fixed_cancel}
use Rattle.ends.specs.Credit.{credit, left, Ongoing}

pub credit_most : (cfg : Config) (s : State) → credit cfg s ≤ most_conflicts cfg
unfolding credit most_conflicts
credit_most cfg s = omega arith

pub left_most : (cfg : Config) (ps : List ℕ) (s : State) → left cfg ps s < most_turns cfg ps
unfolding left most_turns
left_most cfg ps s =
    omega (arith, mul-le-mul_right (suc (most_levels cfg ps)) (credit_most cfg s), suc-mul (most_conflicts cfg) (suc (most_levels cfg ps)))

-- a clause more, or a literal of level 0 more
pub credit_less : {cfg : Config} (s : State) {s' : State} → WellFormed cfg s' → length s.store.clauses ≤ length s'.store.clauses
    → fixed s.vars ≤ fixed s'.vars
    → suc (length s.store.clauses + fixed s.vars) ≤ length s'.store.clauses + fixed s'.vars → suc (credit cfg s') ≤ credit cfg s
unfolding credit
credit_less s w c f m = omega (arith, fixed_most w.vars, w.store.clauses)

pub credit_kept : (cfg : Config) (s s' : State) → length s.store.clauses ≤ length s'.store.clauses → fixed s.vars ≤ fixed s'.vars
    → credit cfg s' ≤ credit cfg s
unfolding credit
credit_kept cfg s s' c f = omega arith

pub credit_cancel : {cfg : Config} {s : State} → WellFormed cfg s → (phase level : ℕ) → credit cfg (cancel_until phase s level) ≡ credit cfg s
unfolding credit
credit_cancel {s = s} w phase level = rw (cancel_store phase s level, fixed_cancel phase s level w.vars)

module _ {cfg : Config} {ps : List ℕ} {s : State} (r : Ongoing cfg ps s) where
  pub ongoing_bound : decision_level s.vars ≤ most_levels cfg ps
  unfolding most_levels
  ongoing_bound = searching_bound r.searching

  pub ongoing_cancel : (phase level : ℕ) → Ongoing cfg ps (cancel_until phase s level)
  ongoing_cancel phase level =
      record { searching = searching_cancel r.searching phase level; watching = cancel_watching r.watching phase level }

-- a conflict: whatever levels it leaves
pub left_conflict : (cfg : Config) (ps : List ℕ) (s s' : State) → suc (credit cfg s') ≤ credit cfg s → left cfg ps s' < left cfg ps s
unfolding left
left_conflict cfg ps s s' h =
    omega (arith, mul-le-mul_right (suc (most_levels cfg ps)) h, suc-mul (credit cfg s') (suc (most_levels cfg ps)))

-- a decision: a level more
pub left_decision : (cfg : Config) (ps : List ℕ) (s s' : State) → Ongoing cfg ps s' → credit cfg s' ≤ credit cfg s
    → decision_level s.vars < decision_level s'.vars → left cfg ps s' < left cfg ps s
unfolding left
left_decision cfg ps s s' r h d = omega (arith, mul-le-mul_right (suc (most_levels cfg ps)) h, ongoing_bound r)
