-- How many conflicts a solve has, and how many searches.
use Rattle.std.specs.Prelude.{◌≡◌, List, [], ℕ, suc, ◌+◌, ◌*◌, ◌≤◌, ◌<◌, length, get_or}
use Rattle.std.proofs.Common.{mul-le-mul, arith}
use Rattle.model.specs.Lit.{no_reason}
use Rattle.model.specs.Luby.{luby}
use Rattle.model.specs.Script.{Config}
use Rattle.model.specs.State.{State, Solver, decision_level, clause_at}
use Rattle.model.specs.Search.{UNDEF, Searched, Turn, most_conflicts, most_levels}
use Rattle.lawbase.specs.Basics.{split, less?}
use Rattle.lawbase.specs.WellFormed.{Proper}
use Rattle.assign.proofs.Lists.{get_or_in}
use Rattle.luby.specs.Laws.{luby_le}
use Rattle.watching.specs.Result.{Clashed}
use Rattle.ends.specs.Credit.{credit}
use Rattle.ends.proofs.Credit.{credit_most}
use Rattle.ends.specs.Comes.{Comes, conflict, decision, refuted, full, stopped, completed, falsified}
use Rattle.ends.specs.Turns.{Then}
use Rattle.ends.specs.Last.{height, Between}
use Rattle.ends.specs.Rounds.{Round, Final}
use Rattle.ends.specs.Bounds.{Limited}

-- a turn that ends the search from y, in a solve that had c conflicts
record Counted (cfg : Config) (assumptions : List ℕ) (budget c : ℕ) (y : Solver) (r : Searched) : Type 0 where
  most : r.conflicts ≤ suc c
  row : c + decision_level y.state.vars ≤ height cfg assumptions budget → r.conflicts ≤ budget + most_levels cfg assumptions

-- a false clause has a variable
some_variable : {cfg : Config} {s₀ : State} {confl : ℕ} {s : State} → Clashed cfg s₀ confl s → 0 < cfg.variables
some_variable {cfg} {confl = confl} {s = s} c =
    let proper : Proper cfg.variables (clause_at s.store confl) =
    c.conflict.falsified.formed.store.proper (clause_at s.store confl) (get_or_in s.store.clauses confl [] c.conflict.falsified.stored) in
    omega (arith, proper.range (get_or (clause_at s.store confl) 0 0) (get_or_in (clause_at s.store confl) 0 0 (omega (arith, proper.two))))

counts : {cfg : Config} {ps : List ℕ} {budget nof c b : ℕ} {y : Solver} {t : Turn} → Comes cfg ps budget nof c b y t
    → Then (λ _ _ _. Unit {0}) (Counted cfg ps budget c y) t
unfolding height most_levels
counts (conflict confl s s' k l e) = tt
counts (decision s s' g e d) = tt
counts (refuted confl s k r z) = record { most = omega arith; row = λ h. omega (arith, some_variable k.clashed) }
counts (full confl s k r z f) = record { most = omega arith; row = λ h. omega arith }
counts (stopped s r o t) = record { most = omega arith; row = λ h. omega arith }
counts (completed s s' g r d m) = record { most = omega arith; row = λ h. omega (arith, g.affords) }
counts (falsified s s' final g r d m) = record { most = omega arith; row = λ h. omega (arith, g.affords) }

module _ {cfg : Config} {ps : List ℕ} {budget : ℕ} {x₀ : Solver} {r : Searched} (f : Final cfg ps budget x₀ r) where
  -- the conflicts before the last turn, and the one it may be
  pub conflicts_had : r.conflicts ≤ suc (f.before + f.last.had)
  conflicts_had = (counts f.last.comes).most

  pub conflicts_spent : f.before + f.last.had + credit cfg f.last.from.state ≤ credit cfg x₀.state
  conflicts_spent = omega (arith, f.last.within.spent, f.round.spent)

  pub conflicts_most : r.conflicts ≤ suc (credit cfg x₀.state)
  conflicts_most = omega (arith, conflicts_had, conflicts_spent)

  -- one more than the clauses and the variables
  pub conflicts_fit : r.conflicts ≤ suc (cfg.max_clauses + cfg.variables)
  unfolding most_conflicts
  conflicts_fit = omega (arith, conflicts_most, credit_most cfg x₀.state)

  -- rule 8: conflicts may pass the budget, but never by more than the levels
  pub conflicts_budget : r.conflicts ≤ budget + (cfg.variables + length ps)
  unfolding most_levels
  conflicts_budget =
      (counts f.last.comes).row (f.last.within.high (omega (arith, f.round.flat, f.round.high)))

  -- cause 1: the budget is reached, and not that turns ran out
  pub undef_budget : r.status ≡ UNDEF → budget ≤ r.conflicts
  undef_budget e =
      split (less? r.conflicts budget) (λ h. absurd (f.over (record { status = e; affords = h }))) (λ h. h)

-- at each turn of each search, the same with room for one conflict more
pub conflicts_between : {cfg : Config} {ps : List ℕ} {budget : ℕ} {x₀ : Solver} {k a : ℕ} {x : Solver} {c b : ℕ} {y : Solver}
    → Round cfg ps budget x₀ k a x → Between cfg ps budget a x c b y → (c ≤ cfg.max_clauses + cfg.variables) × (b ≤ c)
unfolding most_conflicts
conflicts_between {cfg} {x₀ = x₀} w m =
    (omega (arith, w.spent, m.counted, m.within.spent, credit_most cfg x₀.state), omega (arith, m.counted))

-- ---- the limits of a script

pub clause-index : {cfg : Config} → Limited cfg → cfg.max_clauses ≤ no_reason
clause-index l = omega (arith, l.clauses)

module _ {cfg : Config} (l : Limited cfg) {ps : List ℕ} {budget : ℕ} {x₀ : Solver} {k a : ℕ} {x : Solver} (w : Round cfg ps budget x₀ k a x) where
  pub restarts_most : k ≤ cfg.max_clauses + cfg.variables
  unfolding most_conflicts
  restarts_most = omega (arith, w.restarts, credit_most cfg x₀.state)

  -- the index of Luby's sequence
  pub restarts_index : k < 131072
  restarts_index = omega (arith, restarts_most, l.clauses, l.variables)

  pub nof_most : luby k * cfg.unit ≤ 65536000
  nof_most = mul-le-mul (luby_le k restarts_index) l.unit
