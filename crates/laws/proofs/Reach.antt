-- What a run reaches: the solver before each turn of each search, and each conflict above level 0.
use Rattle.std.specs.Prelude.{◌≡◌, refl, true, List, [], ◌∷◌, ◌++◌, ℕ, suc, ◌*◌, ◌≤◌, ◌<◌}
use Rattle.std.proofs.Common.{ap, sym, ◌∙◌, subst, true≢false, arith}
use Rattle.std.specs.Prelude.{None as none, Some as some}
use mathlib.Core.List.Memᴰ.{append_right as in_right}
use mathlib.Core.List.Memᴰ.{head as here}
use Rattle.model.specs.Lit.{neg, no_reason}
use Rattle.model.specs.Luby.{luby}
use Rattle.model.specs.Script.{Config, Record, solve, header, records_of}
use Rattle.model.specs.State.{State, Solver}
use Rattle.model.specs.Propagate.{Propagated, propagate}
use Rattle.model.specs.Search.{Status, FALSE, Searched, Turn, goes_on, ends, turn, most_conflicts, most_turns, search, solve_internal, answer_of}
use Rattle.model.specs.Run.{step}
use Rattle.model.specs.Book.{has}
use Rattle.lawbase.specs.Basics.{◌∈◌, Every, every_nil}
use Rattle.assign.proofs.Searching.{searching_start}
use Rattle.book.specs.Booleans.{all_every, has_in}
use Rattle.watching.specs.Propagate.{Finished, quiet, clash}
use Rattle.watching.specs.Result.{Rested, Clashed}
use Rattle.watching.proofs.Result.{propagated}
use Rattle.ends.specs.Credit.{Ongoing}
use Rattle.ends.proofs.Credit.{credit_most, left_most}
use Rattle.ends.specs.Comes.{Comes}
use Rattle.ends.specs.Turns.{Then}
use Rattle.ends.proofs.Turns.{search_ind}
use Rattle.ends.proofs.Rounds.{first_round, solve_ind}
use Rattle.ends.specs.Bounds.{Limited}
use Rattle.ends.proofs.Bounds.{clause-index}
use Rattle.ends.proofs.Answer.{solve_cases}
use Rattle.sound.proofs.Satisfied.{rup_none}
use Rattle.sound.specs.Verdict.{Solving, Verdict, models, refutes, fails, undecided, no_storage, Turned, onward, over}
use Rattle.sound.proofs.Turns.{turn_turned}
use Rattle.sound.proofs.Searches.{verdict_solving}
use Rattle.script.specs.Accepted.{Accepted}
use Rattle.laws.specs.Run.{solver_after, taken_before}
use Rattle.laws.proofs.Run.{between, fits, limited}
use Rattle.laws.specs.Reach.{Refuted, Standing, place, turn_at, Place, Reaches, starts, goes, restarts, Meets, LastTurn, Answered}

-- ---- what holds there

-- what a turn comes to, as one of its two ends
turned : {cfg : Config} {ps : List ℕ} {taken : List (List ℕ)} {t : Turn} → Turned cfg ps taken t
    → Then (λ _ _ x. (log : List (List ℕ)) × Solving cfg ps taken log x.state) (λ r. Verdict cfg ps taken r.status r.solver.state) t
turned (onward a b x log k) = (log, k)
turned (over r v) = v

refuted : {cfg : Config} {ps : List ℕ} {taken : List (List ℕ)} {st : Status} {t : State} {final : List ℕ} → Verdict cfg ps taken st t → st ≡ FALSE final
    → Refuted cfg.variables taken ps final
refuted (models t log k h) e = absurd (let z : ◌≡◌ {A = ℕ} 0 1 = cc in omega arith)
refuted {cfg} {ps} {taken} {final = final} (refutes t log k) e =
    let q : [] ≡ final = cc in
    subst (Refuted cfg.variables taken ps) q
    (record {
      implied = record { log = log; logged = k.sound.logged; rup = k.rup; follows = rup_none cfg.variables taken log k.sound.logged k.rup };
      negated = every_nil (λ l. neg l ∈ ps);
    })
refuted {cfg} {ps} {taken} {final = final} (fails t log k clause h) e =
    let q : clause ≡ final = cc in
    subst (Refuted cfg.variables taken ps) q
    (record {
      implied = record { log = log; logged = k.sound.logged; rup = h.rup; follows = h.follows };
      negated = λ l i. has_in ps (neg l) (all_every (λ m. has ps (neg m)) clause h.negated l i);
    })
refuted (undecided t log k) e = absurd (let z : ◌≡◌ {A = ℕ} 0 1 = cc in omega arith)
refuted (no_storage t log k) e = absurd (let z : ◌≡◌ {A = ℕ} 0 1 = cc in omega arith)

module _ (s : List ℕ) (work activities out : ℕ) (a : Accepted s work activities out) where
  pub small : (header s).max_clauses ≤ no_reason
  small = clause-index (limited s work activities out a)

  module _ (before after : List Record) (ps : List ℕ) (budget : ℕ) (e : records_of s ≡ before ++ (solve ps budget ∷ after)) where
    in_range : Every (λ q. q < 2 * (header s).variables) ps
    in_range = (fits s work activities out a).records (solve ps budget) (subst (λ (l : List Record). solve ps budget ∈ l) (sym e) (in_right before (here refl)))

    starting : (solver_after s before).state.ok ≡ true → Standing s (place before ps budget 0 0 0) (solver_after s before)
    starting o =
        let b = between s work activities out a before (solve ps budget ∷ after) e in
        record {
          range = in_range;
          log = b.log;
          solving = record {
            searching = searching_start b.ready.formed ps b.ready.level;
            watching = b.ready.watching o;
            sound = b.ready.sound;
            ok = o;
          };
        }

  module _ (p : Place) (x : Solver) (k : Standing s p x) where
    comes_to : (t : Turn) → turn_at (header s) p x ≡ t
        → Then (λ _ _ y. (log : List (List ℕ)) × Solving (header s) p.assumptions (taken_before s p.before) log y.state)
        (λ r. Verdict (header s) p.assumptions (taken_before s p.before) r.status r.solver.state) t
    comes_to t e =
        turned (subst (Turned (header s) p.assumptions (taken_before s p.before)) e
        (turn_turned small k.range p.budget (luby p.restarts * (header s).unit) p.conflicts p.conflict_c x k.solving))

  pub standing : {p : Place} {x : Solver} → Reaches s p x → Standing s p x
  standing (starts before after ps budget e o) = starting before after ps budget e o
  standing (goes p x h b c x' e) =
      let k = standing h in
      let z = comes_to p x k (goes_on b c x') e in
      record { range = k.range; log = z.0; solving = z.1 }
  standing (restarts p x h r e g) =
      let k = standing h in
      let z = verdict_solving (comes_to p x k (ends r) e) g.status in
      record { range = k.range; log = z.0; solving = z.1 }

  -- a turn that ends the solve with FALSE
  pub refutes_at : {p : Place} {x : Solver} → Reaches s p x → (r : Searched) (final : List ℕ) → turn_at (header s) p x ≡ ends r → r.status ≡ FALSE final
      → Refuted (header s).variables (taken_before s p.before) p.assumptions final
  refutes_at {p} {x} h r final e f = refuted (comes_to p x (standing h) (ends r) e) f

  -- what propagation leaves, where it meets a false clause
  pub clashes : {p : Place} {x : Solver} {t : State} {confl : ℕ} → Meets s p x t confl → Clashed (header s) x.state confl t
  clashes {p} {x} {t} {confl} m =
      go (propagate (header s).variables x.state) m.propagates
      (propagated (header s) small x.state (standing m.reached).solving.watching)
    where
      go : (r : Propagated) → r ≡ record { state = t; conflict = some confl } → Finished (Rested (header s) x.state) (Clashed (header s) x.state) r
          → Clashed (header s) x.state confl t
      go r e (quiet t' h q) = absurd (apart (ap (λ (z : Propagated). z.conflict) e))
        where
          apart : none ≡ some confl → ⊥
          apart z = let q : ◌≡◌ {A = ℕ} 0 1 = cc in omega (arith, q)
      go r e (clash c t' h) =
          let et : t' ≡ t = ap (λ (z : Propagated). z.state) e in
          let ec : c ≡ confl = cc (ap (λ (z : Propagated). z.conflict) e) in
          subst (Clashed (header s) x.state confl) et (subst (λ (i : ℕ). Clashed (header s) x.state i t') ec h)

-- ---- nothing is left out: a solve's answer comes from a turn that is reached

solve_cells : (cfg : Config) (ps : List ℕ) (budget : ℕ) (x : Solver) → x.state.ok ≡ true
    → (step cfg (solve ps budget) x).answer ≡ answer_of (solve_internal cfg ps budget (suc (most_conflicts cfg)) 0 0 x)
unfolding step
solve_cells cfg ps budget x o =
    solve_cases (λ r. r.answer ≡ answer_of (solve_internal cfg ps budget (suc (most_conflicts cfg)) 0 0 x)) cfg x ps budget
    (λ e. absurd (true≢false (sym o ∙ e))) (λ e. refl)

module _ (s : List ℕ) (work activities out : ℕ) (a : Accepted s work activities out) (before after : List Record) (ps : List ℕ) (budget : ℕ)
    (e : records_of s ≡ before ++ (solve ps budget ∷ after)) (o : (solver_after s before).state.ok ≡ true) where
  abbrev pub cfg : Config
  cfg = header s

  pub l : Limited cfg
  l = limited s work activities out a

  range : Every (λ q. q < 2 * cfg.variables) ps
  range = in_range s work activities out a before after ps budget e

  -- the search after k restarts stands there
  abbrev Searches : ℕ → ℕ → ℕ → Solver → Type 0
  Searches k b c x = Reaches s (place before ps budget k b c) x

  turns : (k b c : ℕ) (x : Solver) → Ongoing cfg ps x.state → Searches k b c x → (t : Turn) → turn cfg ps budget (luby k * cfg.unit) b c x ≡ t
      → Comes cfg ps budget (luby k * cfg.unit) b c x t → Then (Searches k) (LastTurn s before ps budget k) t
  turns k b c x g h (goes_on b' c' x') q z = goes (place before ps budget k b c) x h b' c' x' q
  turns k b c x g h (ends r) q z = record { conflicts = b; conflict_c = c; from = x; reached = h; ended = q }

  searched : (k b : ℕ) (x : Solver) → Ongoing cfg ps x.state → Searches k b 0 x → (r : Searched)
      → search cfg ps budget (luby k * cfg.unit) (most_turns cfg ps) b 0 x ≡ r → LastTurn s before ps budget k r
  searched k b x g h r q =
      subst (LastTurn s before ps budget k) q
      (search_ind cfg (clause-index l) ps range budget (luby k * cfg.unit) (Searches k) (LastTurn s before ps budget k) (turns k) (most_turns cfg ps) b 0 x g h
      (left_most cfg ps x.state))

  SolvedAt : Searched → Type 0
  SolvedAt r = (k : ℕ) × LastTurn s before ps budget k r

  solved : SolvedAt (solve_internal cfg ps budget (suc (most_conflicts cfg)) 0 0 (solver_after s before))
  unfolding SolvedAt
  solved =
      let b = (between s work activities out a before (solve ps budget ∷ after) e).ready in
      solve_ind cfg (clause-index l) l.least_unit ps range budget (solver_after s before) (λ k c x. Searches k c 0 x) SolvedAt
      (λ k c x w h r q z g.
      let t = searched k c x w.ongoing h r q in
      restarts (place before ps budget k t.conflicts t.conflict_c) t.from t.reached r t.ended g)
      (λ k c x w h r q z n. (k, searched k c x w.ongoing h r q))
      (suc (most_conflicts cfg)) 0 0 (solver_after s before)
      (first_round budget (solver_after s before)
      (record { searching = searching_start b.formed ps b.level; watching = b.watching o }) b.level)
      (starts before after ps budget e o) (omega (arith, credit_most cfg (solver_after s before).state))

  pub answered : Answered s before ps budget
  unfolding SolvedAt
  answered =
      record {
        end = solve_internal cfg ps budget (suc (most_conflicts cfg)) 0 0 (solver_after s before);
        restarts = solved.0;
        last = solved.1;
        cells = solve_cells cfg ps budget (solver_after s before) o;
      }
