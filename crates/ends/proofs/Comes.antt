-- What a turn of `search` comes to: the cases, each with what it changes.
use Rattle.std.specs.Prelude.{◌≡◌, List, ℕ, ◌*◌, ◌≤◌, ◌<◌, length}
use Rattle.std.proofs.Math.Path.{refl}
use Rattle.std.proofs.Common.{ap, sym, ◌∙◌, subst, arith, length-append}
use Rattle.std.specs.Prelude.{None as none, Some as some}
use Rattle.model.specs.Lit.{no_reason}
use Rattle.model.specs.Script.{Config}
use Rattle.model.specs.State.{Store, State, Solver, decision_level, with_state}
use Rattle.model.specs.Propagate.{Propagated, propagate}
use Rattle.model.specs.Analyze.{analyze}
use Rattle.model.specs.Decide.{Decision, decided, complete, failed, decide}
use Rattle.model.specs.Search.{TRUE, FALSE, add_learnt_and_backtrack, goes_on, ends, on_conflict, on_no_conflict, turn}
use Rattle.lawbase.specs.Basics.{Every}
use Rattle.assign.specs.Searching.{Searching}
use Rattle.assign.specs.Decide.{Outcome}
use Rattle.assign.proofs.Outcomes.{decide-outcome}
use Rattle.watching.specs.Propagate.{Finished, quiet, clash}
use Rattle.watching.specs.Forced.{Advance}
use Rattle.watching.proofs.Forced.{extended, advance_searching}
use Rattle.watching.proofs.Moves.{conflict_returning}
use Rattle.watching.specs.Decide.{Decides}
use Rattle.watching.proofs.Decide.{decide_watching}
use Rattle.watching.specs.Result.{Rested, Clashed}
use Rattle.watching.proofs.Result.{propagated}
use Rattle.ends.specs.Fixed.{fixed, Fixes}
use Rattle.ends.proofs.Fixed.{fixed_longer, decide_fixes}
use Rattle.ends.specs.Credit.{Ongoing, credit}
use Rattle.ends.proofs.Credit.{credit_kept}
use Rattle.ends.specs.Learns.{Learns, Backjump}
use Rattle.ends.proofs.Learns.{jump_full, jump_learns, conflict_analyzed, backjump}
use Rattle.ends.proofs.Cases.{conflict_cases, no_conflict_cases}
use Rattle.ends.specs.Comes.{Propagates, Clashes, Comes, refuted, full, conflict, Rests, stopped, Goes, decision, completed, falsified}

-- ---- propagation

pub advance_propagates : {cfg : Config} {s s' : State} → Advance cfg.variables s s' → Propagates cfg s s'
advance_propagates {cfg} {s} {s'} a =
    let e = extended a.forced in
    let f : fixed s.vars ≤ fixed s'.vars =
    fixed_longer s.vars s'.vars e.limits (omega (arith, ap length e.trail, length-append s.vars.trail e.added)) in
    record { level = ap length e.limits; fixes = f; kept = credit_kept cfg s s' (omega (arith, a.reordered.count)) f }

-- ---- the turn

module _ {cfg : Config} (small : cfg.max_clauses ≤ no_reason) {ps : List ℕ} (x : Solver) (o : Ongoing cfg ps x.state) {confl : ℕ} {s : State}
    (c : Clashes cfg x.state confl s) where
  pub clash_searching : Searching cfg ps s
  clash_searching = advance_searching cfg ps x.state s c.clashed.advance c.clashed.conflict.falsified.formed o.searching

  -- rule 5, above level 0
  pub clash_back : 0 < decision_level s.vars → Backjump cfg ps s (analyze cfg (with_state x s) confl).clause
      (add_learnt_and_backtrack cfg s (analyze cfg (with_state x s) confl).clause (analyze cfg (with_state x s) confl).level)
  clash_back d = backjump small clash_searching (conflict_returning c.clashed.conflict) (conflict_analyzed (with_state x s) c.clashed.conflict d)

module _ (cfg : Config) (small : cfg.max_clauses ≤ no_reason) (ps : List ℕ) (range : Every (λ p. p < 2 * cfg.variables) ps) (budget nof a b : ℕ) (x : Solver)
    (o : Ongoing cfg ps x.state) where
  after_conflict : (confl : ℕ) (s : State) → Clashes cfg x.state confl s → Comes cfg ps budget nof a b x (on_conflict cfg a b (with_state x s) confl)
  after_conflict confl s c =
      conflict_cases (Comes cfg ps budget nof a b x) cfg a b (with_state x s) confl
      (λ z. refuted confl s c (clash_searching small x o c) (sym moved.level ∙ z))
      (λ d e. full confl s c (clash_searching small x o c) (omega (arith, moved.level)) (jump_full (subst (Backjump cfg ps s (analyze cfg (with_state x s) confl).clause) e (clash_back small x o c d))))
      (λ d s' e. conflict confl s s' c (from_here s' (jump_learns (subst (Backjump cfg ps s (analyze cfg (with_state x s) confl).clause) e (clash_back small x o c d)))) e)
    where
      moved : Propagates cfg x.state s
      moved = advance_propagates c.clashed.advance

      from_here : (s' : State) → Learns cfg ps s s' → Learns cfg ps x.state s'
      from_here s' l = record { ongoing = l.ongoing; less = omega (arith, l.less, moved.kept); shallower = omega (arith, l.shallower, moved.level) }

  after_rest : (s : State) → Rests cfg x.state s
      → Comes cfg ps budget nof a b x (on_no_conflict cfg ps budget nof a b (with_state x s))
  after_rest s r =
      no_conflict_cases (Comes cfg ps budget nof a b x) cfg ps budget nof a b (with_state x s)
      (λ t. stopped s r here t)
      (λ m n.
      on (record { rests = r; searches = m; affords = n }) (decide x.activity.activities ps s) refl
      (decide-outcome range x.activity.activities here.searching)
      (decide_watching x.activity.activities ps range (record { watching = r.rested.watching; rest = r.head }))
      (decide_fixes x.activity.activities ps s))
    where
      moved : Propagates cfg x.state s
      moved = advance_propagates r.rested.advance

      here : Ongoing cfg ps s
      here =
          record {
            searching = advance_searching cfg ps x.state s r.rested.advance r.rested.watching.formed o.searching;
            watching = r.rested.watching;
          }

      keeps : (s' : State) → s'.store ≡ s.store → fixed s.vars ≤ fixed s'.vars → credit cfg s' ≤ credit cfg x.state
      keeps s' e f =
          omega (arith, moved.kept, credit_kept cfg s s' (omega (arith, ap (λ (st : Store). length st.clauses) e)) f)

      on : Goes cfg nof budget a b x.state s → (d : Decision) → decide x.activity.activities ps s ≡ d → Outcome cfg ps s d → Decides cfg d
          → Fixes (fixed s.vars) d
          → Comes cfg ps budget nof a b x (elim d [
            | decided s' ↦ goes_on a b (with_state x s')
            | complete s' ↦ ends (record { solver = with_state x s'; conflicts = a; status = TRUE })
            | failed s' final ↦ ends (record { solver = with_state x s'; conflicts = a; status = FALSE final })
          ])
      on g (decided s') e y z f =
          decision s s' g e
          (record {
            ongoing = record { searching = y.searching; watching = z };
            kept = keeps s' y.store f;
            deeper = omega (arith, moved.level, y.deeper);
          })
      on g (complete s') e y z f = completed s s' g z y (keeps s' y.store f)
      on g (failed s' final) e y z f = falsified s s' final g z y (keeps s' y.store f)

  pub comes : Comes cfg ps budget nof a b x (turn cfg ps budget nof a b x)
  unfolding turn
  comes = go (propagate cfg.variables x.state) refl (propagated cfg small x.state o.watching)
    where
      go : (r : Propagated) → propagate cfg.variables x.state ≡ r → Finished (Rested cfg x.state) (Clashed cfg x.state) r
          → Comes cfg ps budget nof a b x (elim r.conflict [
            | some confl ↦ on_conflict cfg a b (with_state x r.state) confl
            | none ↦ on_no_conflict cfg ps budget nof a b (with_state x r.state)
          ])
      go r e (quiet s h q) = after_rest s (record { propagates = e; rested = h; head = q })
      go r e (clash c s h) = after_conflict c s (record { propagates = e; clashed = h })
