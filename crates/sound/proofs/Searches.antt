-- Searches, one after the other, from any state of a search.
use Rattle.std.specs.Prelude.{◌≡◌, true, false, List, ltb}
use Rattle.std.proofs.Math.Path.{refl}
use Prim.Native.Nat.{ℕ, suc, zero, ◌*◌, ◌≤◌, ◌<◌}
use Rattle.std.proofs.Common.{arith}
use Rattle.model.specs.Lit.{no_reason}
use Rattle.model.specs.Luby.{luby}
use Rattle.model.specs.Script.{Config}
use Rattle.model.specs.State.{State}
use Rattle.model.specs.Search.{Status, TRUE, FALSE, UNDEF, NO_STORAGE, Searched, Turn, goes_on, ends, turn, search, most_turns, solve_internal}
use Rattle.lawbase.specs.Basics.{Every, split, on?}
use Rattle.sound.specs.Verdict.{Solving, Verdict, models, refutes, fails, undecided, no_storage, Turned, onward, over}
use Rattle.sound.proofs.Turns.{turn_turned}
use Rattle.sound.specs.Searches.{Starts, Ended}

-- what a search that is undecided leaves
pub verdict_solving : {cfg : Config} {ps : List ℕ} {taken : List (List ℕ)} {st : Status} {s : State} → Verdict cfg ps taken st s → st ≡ UNDEF
    → (log : List (List ℕ)) × Solving cfg ps taken log s
verdict_solving (models s log k h) e = absurd (let z : ◌≡◌ {A = ℕ} 0 1 = cc in omega arith)
verdict_solving (refutes s log k) e = absurd (let z : ◌≡◌ {A = ℕ} 0 1 = cc in omega arith)
verdict_solving (fails s log k final h) e = absurd (let z : ◌≡◌ {A = ℕ} 0 1 = cc in omega arith)
verdict_solving (undecided s log k) e = (log, k)
verdict_solving (no_storage s log k) e = absurd (let z : ◌≡◌ {A = ℕ} 0 1 = cc in omega arith)

-- a search of status st, and those that may follow it
next : Config → List ℕ → ℕ → Status → ℕ → ℕ → Searched → Searched
next cfg ps budget st turns restarts r =
    elim st [
      | TRUE ↦ r
      | FALSE final ↦ r
      | NO_STORAGE ↦ r
      | UNDEF ↦ elim (ltb r.conflicts budget) [ true ↦ solve_internal cfg ps budget turns (suc restarts) r.conflicts r.solver | false ↦ r ]
    ]

module _ (cfg : Config) (small : cfg.max_clauses ≤ no_reason) (ps : List ℕ) (range : Every (λ p. p < 2 * cfg.variables) ps)
    (taken : List (List ℕ)) (budget : ℕ) where
  turn_ended : (nof_conflicts turns : ℕ)
      → ((conflicts conflict_c : ℕ) → Starts cfg ps taken (search cfg ps budget nof_conflicts turns conflicts conflict_c)) → (t : Turn)
      → Turned cfg ps taken t
      → Ended cfg ps taken (elim t [ goes_on conflicts conflict_c x ↦ search cfg ps budget nof_conflicts turns conflicts conflict_c x | ends r ↦ r ])
  turn_ended nof_conflicts turns f t (onward conflicts conflict_c x log k) = f conflicts conflict_c x log k
  turn_ended nof_conflicts turns f t (over r v) = v

  search_ended : (nof_conflicts turns conflicts conflict_c : ℕ) → Starts cfg ps taken (search cfg ps budget nof_conflicts turns conflicts conflict_c)
  unfolding search
  search_ended nof_conflicts zero conflicts conflict_c x log k = undecided x.state log k
  search_ended nof_conflicts (suc turns) conflicts conflict_c x log k =
      turn_ended nof_conflicts turns (search_ended nof_conflicts turns) (turn cfg ps budget nof_conflicts conflicts conflict_c x)
      (turn_turned small range budget nof_conflicts conflicts conflict_c x k)

  next_ended : (turns restarts : ℕ) → ((restarts conflicts : ℕ) → Starts cfg ps taken (solve_internal cfg ps budget turns restarts conflicts))
      → (st : Status) (r : Searched) → r.status ≡ st → Ended cfg ps taken r → Ended cfg ps taken (next cfg ps budget st turns restarts r)
  unfolding next
  next_ended turns restarts f TRUE r e v = v
  next_ended turns restarts f (FALSE final) r e v = v
  next_ended turns restarts f NO_STORAGE r e v = v
  next_ended turns restarts f UNDEF r e v =
      let k = verdict_solving v e in
      split (on? (ltb r.conflicts budget)) (λ z. rw (z, next) (f (suc restarts) r.conflicts r.solver k.0 k.1)) (λ z. rw (z, next) v)

  pub internal_ended : (turns restarts conflicts : ℕ) → Starts cfg ps taken (solve_internal cfg ps budget turns restarts conflicts)
  unfolding solve_internal next
  internal_ended zero restarts conflicts x log k = undecided x.state log k
  internal_ended (suc turns) restarts conflicts x log k =
      let r = search cfg ps budget (luby restarts * cfg.unit) (most_turns cfg ps) conflicts 0 x in
      next_ended turns restarts (internal_ended turns) r.status r refl
      (search_ended (luby restarts * cfg.unit) (most_turns cfg ps) conflicts 0 x log k)
