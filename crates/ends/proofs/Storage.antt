-- No storage: exactly when a learnt clause of two literals or more meets a full store, and what is left then.
use Rattle.std.specs.Prelude.{◌≡◌, refl, List, ℕ, ◌+◌, ◌≤◌, ◌<◌, length}
use Rattle.std.proofs.Math.Path.{ap}
use Rattle.std.proofs.Common.{sym, ◌∙◌, subst, inl, inr, arith}
use Rattle.std.specs.Prelude.{None as none, Some as some}
use Rattle.model.specs.Lit.{no_reason}
use Rattle.model.specs.Script.{Config}
use Rattle.model.specs.State.{Store, State, Solver, decision_level, with_state}
use Rattle.model.specs.Store.{stored_literals}
use Rattle.model.specs.Propagate.{Propagated}
use Rattle.model.specs.Analyze.{analyze}
use Rattle.model.specs.Search.{NO_STORAGE, Searched, Turn, ends, on_conflict, on_no_conflict, turn}
use Rattle.lawbase.specs.Basics.{split, less?}
use Rattle.lawbase.specs.WellFormed.{Stored}
use Rattle.watching.specs.Store.{Room}
use Rattle.ends.specs.Credit.{Ongoing}
use Rattle.ends.specs.Learns.{Full, Backjump, learns}
use Rattle.ends.proofs.Learns.{jump_full}
use Rattle.ends.proofs.Cases.{conflict_cases}
use Rattle.ends.specs.Comes.{Clashes, Comes, conflict, decision, refuted, full, stopped, completed, falsified}
use Rattle.ends.proofs.Comes.{clash_back}
use Rattle.ends.specs.Turns.{Then}
use Rattle.ends.specs.Rounds.{Final}
use Rattle.ends.specs.Storage.{Crowded, unstored, Unstored}

module _ {cfg : Config} {st : Store} {c : List ℕ} where
  pub full_crowded : Stored cfg st → Full cfg st c → Crowded cfg st c
  full_crowded w f =
      split (less? (length st.clauses) cfg.max_clauses)
      (λ a.
      split (less? cfg.max_literals (stored_literals st.clauses + length c)) inr
      (λ b. absurd (f.full (record { clauses = a; literals = b }))))
      (λ a. inl (omega (arith, w.clauses)))

  pub crowded_full : 2 ≤ length c → Crowded cfg st c → Full cfg st c
  crowded_full t h = record { two = t; full = never h }
    where
      never : Crowded cfg st c → Room cfg st c → ⊥
      never (inl e) r = omega (arith, r.clauses)
      never (inr e) r = omega (arith, r.literals)

-- ---- a turn

module _ (cfg : Config) (small : cfg.max_clauses ≤ no_reason) (ps : List ℕ) (budget nof a b : ℕ) (x : Solver) (o : Ongoing cfg ps x.state) (confl : ℕ)
    (s : State) (c : Clashes cfg x.state confl s) where
  turn_clash : turn cfg ps budget nof a b x ≡ on_conflict cfg a b (with_state x s) confl
  unfolding turn
  turn_clash =
      ap
      (λ (r : Propagated). elim r.conflict as (λ _. Turn) [
        | some confl ↦ on_conflict cfg a b (with_state x r.state) confl
        | none ↦ on_no_conflict cfg ps budget nof a b (with_state x r.state)
      ])
      c.propagates

  pub full_ends : 0 < decision_level s.vars → Full cfg s.store (analyze cfg (with_state x s) confl).clause
      → turn cfg ps budget nof a b x ≡ ends (unstored cfg a x confl s)
  full_ends d f =
      turn_clash
      ∙ conflict_cases (λ t. t ≡ ends (unstored cfg a x confl s)) cfg a b (with_state x s) confl (λ z. absurd (omega arith)) (λ d e. refl)
      (λ d s' e. absurd (roomy (subst (Backjump cfg ps s (analyze cfg (with_state x s) confl).clause) e (clash_back small x o c d))))
    where
      roomy : {s' : State} → Backjump cfg ps s (analyze cfg (with_state x s) confl).clause (some s') → ⊥
      roomy (learns s' l r) = f.full (r f.two)

  pub ends_full : turn cfg ps budget nof a b x ≡ ends (unstored cfg a x confl s) → 0 < decision_level s.vars
      → Full cfg s.store (analyze cfg (with_state x s) confl).clause
  ends_full h d =
      conflict_cases (λ t. t ≡ ends (unstored cfg a x confl s) → Full cfg s.store (analyze cfg (with_state x s) confl).clause) cfg a b (with_state x s)
      confl (λ z e. absurd (omega arith))
      (λ d e f. jump_full (subst (Backjump cfg ps s (analyze cfg (with_state x s) confl).clause) e (clash_back small x o c d)))
      (λ d s' e f. let z : ◌≡◌ {A = ℕ} 0 1 = cc in absurd (omega arith))
      (sym turn_clash ∙ h)

comes_unstored : {cfg : Config} {ps : List ℕ} {budget nof a b : ℕ} {x : Solver} {t : Turn} → Comes cfg ps budget nof a b x t
    → Then (λ _ _ _. Unit {0}) (λ r. r.status ≡ NO_STORAGE → Unstored cfg a x r) t
comes_unstored (conflict confl s s' k l e) = tt
comes_unstored (decision s s' g e d) = tt
comes_unstored (refuted confl s k r z) = λ h. let z : ◌≡◌ {A = ℕ} 0 1 = cc h in absurd (omega arith)
comes_unstored (stopped s r o t) = λ h. let z : ◌≡◌ {A = ℕ} 0 1 = cc h in absurd (omega arith)
comes_unstored (completed s s' g r d m) = λ h. let z : ◌≡◌ {A = ℕ} 0 1 = cc h in absurd (omega arith)
comes_unstored (falsified s s' final g r d m) = λ h. let z : ◌≡◌ {A = ℕ} 0 1 = cc h in absurd (omega arith)
comes_unstored (full confl s k r z f) = λ h.
    record {
      confl = confl;
      state = s;
      clashes = k;
      deep = z;
      two = f.two;
      crowded = full_crowded r.formed.store f;
      is = refl;
    }

pub turn_unstored : {cfg : Config} {ps : List ℕ} {budget nof a b : ℕ} {x : Solver} {r : Searched} → Comes cfg ps budget nof a b x (ends r)
    → r.status ≡ NO_STORAGE → Unstored cfg a x r
turn_unstored c = comes_unstored c

-- ---- a solve

-- the last turn of the last search ends so
pub solve-unstored : {cfg : Config} {ps : List ℕ} {budget : ℕ} {x₀ : Solver} {r : Searched} (f : Final cfg ps budget x₀ r) → r.status ≡ NO_STORAGE
    → Unstored cfg (f.before + f.last.had) f.last.from r
solve-unstored f e = turn_unstored f.last.comes e
