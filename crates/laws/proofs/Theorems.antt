-- The theorems of the definition. Each holds for every script that is accepted, whatever cells and slices were lent, and rests on no axiom.
use Rattle.std.specs.Prelude.{◌≡◌, refl, ◌↔◌, true, List, [], ◌∷◌, ◌++◌, ℕ, suc, ◌+◌, ◌*◌, ◌≤◌, length, get_or}
use Rattle.std.proofs.Common.{sym, subst, arith}
use Rattle.std.specs.Prelude.{None as none}
use mathlib.Core.List.Memᴰ.{append_right as in_right}
use mathlib.Core.List.Memᴰ.{head as here}
use Rattle.model.specs.Luby.{luby}
use Rattle.model.specs.Script.{Config, Record, clause, solve, header, records, records_of}
use Rattle.model.specs.State.{State, Solver, initial, with_state, decision_level, clause_at}
use Rattle.model.specs.Intake.{add_clause}
use Rattle.model.specs.Propagate.{propagate}
use Rattle.model.specs.Analyze.{first_uip, analyze}
use Rattle.model.specs.Final.{analyze_final}
use Rattle.model.specs.Search.{FALSE, Searched, ends, add_learnt_and_backtrack, search, solve_internal, most_conflicts, most_levels, most_turns, UNDEF}
use Rattle.model.specs.Run.{step, run}
use Rattle.model.specs.Book.{all, entry, history, entries, cells_of, Demand3, SameVerdict}
use Rattle.lawbase.specs.Basics.{◌∈◌}
use Rattle.lawbase.specs.WellFormed.{WellFormed}
use Rattle.book.specs.Check.{checks, shows}
use Rattle.learning.specs.FirstUip as Uip
use Rattle.learning.specs.FirstUip.{FirstUip}
use Rattle.learning.proofs.Uip.{first_uip_law}
use Rattle.learning.specs.Analyzed.{Analyzed}
use Rattle.learning.proofs.Analyzed.{analyze_law, analyze_rup}
use Rattle.learning.specs.Final.{FinalClause}
use Rattle.learning.proofs.Final.{final_law}
use Rattle.watching.specs.Propagate.{Finished}
use Rattle.watching.proofs.Propagate.{propagate_enough}
use Rattle.watching.specs.Result.{Rested, Clashed}
use Rattle.watching.proofs.Result.{conflict_two, propagated}
use Rattle.mask.specs.Unmasked.{analyze_unmasked}
use Rattle.mask.specs.Traceable.{Keeps}
use Rattle.mask.proofs.Learnt.{same_learnt, keeps}
use Rattle.ends.specs.Credit.{Ongoing}
use Rattle.ends.proofs.Credit.{left_most, credit_most, ongoing_bound}
use Rattle.ends.proofs.MoreTurns.{search_more}
use Rattle.ends.specs.Rounds.{Final}
use Rattle.ends.proofs.Rounds.{solve_enough, solve_final}
use Rattle.ends.proofs.Bounds.{conflicts_fit, conflicts_budget, undef_budget, restarts_most, nof_most}
use Rattle.ends.specs.Spends.{run_conflicts, solves}
use Rattle.ends.proofs.Spends.{run_spends}
use Rattle.ends.proofs.Out.{run_short}
use Rattle.sound.specs.Intake.{Full, NoStorage}
use Rattle.sound.proofs.Intake.{answer_two}
use Rattle.sound.proofs.Satisfied.{rup_taken}
use Rattle.sound.proofs.Steps.{advance_sound}
use Rattle.sound.proofs.Conflicts.{learnt_full}
use Rattle.sound.proofs.Run.{run_demand}
use Rattle.script.specs.Accepted.{Accepted}
use Rattle.laws.specs.Run.{solver_after, taken_before}
use Rattle.laws.proofs.Run.{between, told, fits, limited, all_ranged}
use Rattle.laws.specs.Reach.{Place, turn_at, Reaches, starts, Meets, Implied, Refuted, Answered}
use Rattle.laws.proofs.Reach.{small, standing, clashes, refutes_at, answered}

-- ---- 1. The state is well-formed between two records, and wherever the run stands before a turn of a search (`Reaches`, module Reach). Nothing is left
-- out of that: each solve that searches takes its answer from a turn that is reached.

module _ (s : List ℕ) (work activities out : ℕ) (a : Accepted s work activities out) where
  pub formed_between : (before after : List Record) → records_of s ≡ before ++ after → WellFormed (header s) (solver_after s before).state
  formed_between before after e = (between s work activities out a before after e).ready.formed

  pub formed_at_a_turn : {p : Place} {x : Solver} → Reaches s p x → Ongoing (header s) p.assumptions x.state
  formed_at_a_turn r = let k = (standing s work activities out a r).solving in record { searching = k.searching; watching = k.watching }

  pub answer_reached : (before after : List Record) (ps : List ℕ) (budget : ℕ) → records_of s ≡ before ++ (solve ps budget ∷ after)
      → (solver_after s before).state.ok ≡ true → Answered s before ps budget
  answer_reached = answered s work activities out a

  -- ---- 2. Propagation as published, at every turn of a run. Afterwards there is a false clause, all of whose literals are false, or every stored clause
  -- has a true literal or its two watched ones unset (`Settled`); each literal set is the unit consequence of a stored clause (`Forced`). V turns are
  -- enough.

  module _ {p : Place} {x : Solver} (r : Reaches s p x) where
    pub propagation : Finished (Rested (header s) x.state) (Clashed (header s) x.state) (propagate (header s).variables x.state)
    propagation = propagated (header s) (small s work activities out a) x.state (formed_at_a_turn r).watching

    pub propagation_ends : (k : ℕ) → (header s).variables ≤ k → propagate k x.state ≡ propagate (header s).variables x.state
    propagation_ends k le = propagate_enough (header s) (small s work activities out a) k x.state (formed_at_a_turn r).watching.formed le

  -- ---- 3. First UIP as published, and the clause that is learnt, at every conflict of a run above level 0. The conflict is in clause `confl`, false in the
  -- state t.

  module _ {p : Place} {x : Solver} {t : State} {confl : ℕ} (m : Meets s p x t confl) where
    abbrev clashed : Clashed (header s) x.state confl t
    clashed = clashes s work activities out a m

    pub conflict : Uip.Conflict (header s).variables t.store t.vars confl
    conflict =
        let two = conflict_two clashed.conflict in
        record {
          assignment = clashed.conflict.falsified.formed.vars;
          falsified = clashed.conflict.falsified.falses;
          deep = m.deep;
          top = (get_or (clause_at t.store confl) 0 0, two.first_in, two.first);
        }

    -- before minimising: resolved along the trail until one literal of the level is left, and no sooner
    pub first_uip_as_published : FirstUip t.store t.vars confl (first_uip (header s) (with_state x t) confl).learnt
    first_uip_as_published = (first_uip_law (header s) (with_state x t) confl conflict).first

    -- after minimising: what stands first and second, and the level to go back to
    pub learnt-clause : Analyzed (header s).variables t.store t.vars
        (analyze (header s) (with_state x t) confl).clause (analyze (header s) (with_state x t) confl).level
    learnt-clause = analyze_law (header s) (with_state x t) confl conflict

    -- ---- 4. A learnt clause follows from the clauses taken before the solve, with a log as evidence (`Implied`). Of the stored clauses and level 0
    -- themselves it is said in `learnt-clause`, `sound`: no set of literals that respects them falsifies it.
    pub learnt_follows : Implied (header s).variables (taken_before s p.before) (analyze (header s) (with_state x t) confl).clause
    learnt_follows =
        let k = standing s work activities out a m.reached in
        let h = advance_sound clashed.advance clashed.conflict.falsified.formed.vars k.solving.sound in
        let taken = taken_before s p.before in
        let c = analyze (header s) (with_state x t) confl in
        let u = analyze_rup (k.log ++ taken) (header s).variables t.store t.vars c.clause c.level h.known learnt-clause in
        record {
          log = k.log;
          logged = h.logged;
          rup = u;
          follows = rup_taken (header s).variables taken k.log h.logged c.clause u learnt-clause.range;
        }

  -- So does a final clause, whose literals are negated assumptions.
  pub final_follows : {p : Place} {x : Solver} → Reaches s p x → (r : Searched) (final : List ℕ) → turn_at (header s) p x ≡ ends r → r.status ≡ FALSE final
      → Refuted (header s).variables (taken_before s p.before) p.assumptions final
  final_follows = refutes_at s work activities out a

-- it has the negation of the false assumption, then negated decisions
pub final_clause : (cfg : Config) (s : State) → WellFormed cfg s → (p : ℕ) → p ∈ s.vars.trail
    → FinalClause cfg.variables s.store s.vars p (analyze_final s.store s.vars p)
final_clause cfg s h p on = final_law cfg.variables s.store s.vars h.vars p on

-- ---- 5. Ends, and bounds.

module _ (s : List ℕ) (work activities out : ℕ) (a : Accepted s work activities out) where
  -- wherever a run stands, more turns change no search, and no solve
  module _ {p : Place} {x : Solver} (r : Reaches s p x) where
    pub search_ends : (nof k b c : ℕ)
        → search (header s) p.assumptions p.budget nof (most_turns (header s) p.assumptions) b c x
        ≡ search (header s) p.assumptions p.budget nof (most_turns (header s) p.assumptions + k) b c x
    search_ends nof k b c =
        search_more (header s) (small s work activities out a) p.assumptions (standing s work activities out a r).range p.budget nof
        (most_turns (header s) p.assumptions) k b c x (formed_at_a_turn s work activities out a r) (left_most (header s) p.assumptions x.state)

    pub solve_ends : (k n b : ℕ)
        → solve_internal (header s) p.assumptions p.budget (suc (most_conflicts (header s))) n b x
        ≡ solve_internal (header s) p.assumptions p.budget (suc (most_conflicts (header s)) + k) n b x
    solve_ends k n b =
        solve_enough (header s) (small s work activities out a) (limited s work activities out a).least_unit p.assumptions
        (standing s work activities out a r).range p.budget (suc (most_conflicts (header s))) (suc (most_conflicts (header s)) + k) n b x
        (formed_at_a_turn s work activities out a r) (omega (arith, credit_most (header s) x.state)) (omega (arith, credit_most (header s) x.state))

    -- each level is opened by an assumption, or by a decision on a variable of its own
    pub levels_bounded : decision_level x.state.vars ≤ (header s).variables + length p.assumptions
    unfolding most_levels
    levels_bounded = ongoing_bound (formed_at_a_turn s work activities out a r)

  -- each solve that searches
  module _ (before after : List Record) (ps : List ℕ) (budget : ℕ) (e : records_of s ≡ before ++ (solve ps budget ∷ after))
      (o : (solver_after s before).state.ok ≡ true) where
    abbrev pub found : Searched
    found = solve_internal (header s) ps budget (suc (most_conflicts (header s))) 0 0 (solver_after s before)

    -- what it went through: its restarts, and its last search
    pub whole_solve : Final (header s) ps budget (solver_after s before) found
    whole_solve =
        let r = starts before after ps budget e o in
        solve_final (header s) (small s work activities out a) (limited s work activities out a).least_unit ps (standing s work activities out a r).range budget
        (solver_after s before) (suc (most_conflicts (header s))) (formed_at_a_turn s work activities out a r)
        (between s work activities out a before (solve ps budget ∷ after) e).ready.level (omega (arith, credit_most (header s) (solver_after s before).state))

    -- its conflicts: at most C + V + 1, and at most budget + V + number of assumptions
    pub conflicts_bounded : found.conflicts ≤ suc ((header s).max_clauses + (header s).variables)
    conflicts_bounded = conflicts_fit whole_solve

    pub conflicts_and_budget : found.conflicts ≤ budget + ((header s).variables + length ps)
    conflicts_and_budget = conflicts_budget whole_solve

    -- UNDEF without cause 2: the budget is spent, and not that turns ran out
    pub stopped_by_budget : found.status ≡ UNDEF → budget ≤ found.conflicts
    stopped_by_budget = undef_budget whole_solve

    -- its restarts, and the conflicts that the last one allows
    pub restarts_bounded : whole_solve.restarts ≤ (header s).max_clauses + (header s).variables
    restarts_bounded = restarts_most (limited s work activities out a) whole_solve.round

    pub restart_product_bounded : luby whole_solve.restarts * (header s).unit ≤ 65536000
    restart_product_bounded = nof_most (limited s work activities out a) whole_solve.round

-- a run's conflicts: at most C + V + number of solves
pub run_bounded : (s : List ℕ) (work activities out : ℕ) → Accepted s work activities out
    → run_conflicts (header s) (records_of s) (initial (header s).variables) ≤ (header s).max_clauses + (header s).variables + solves (records_of s)
run_bounded s work activities out a = run_spends (limited s work activities out a) (records_of s) (all_ranged s work activities out a)

-- the out cells are never more than refusal 12 asks for
pub out_enough : (s : List ℕ) (work activities out : ℕ) → Accepted s work activities out → length (run (header s) (records_of s)) ≤ out
out_enough s work activities out a =
    omega (arith, run_short (limited s work activities out a) (records_of s) (all_ranged s work activities out a), a.out_fits)

-- ---- 6. Storage: answer 2 and cause 2 come exactly when document 01 says.

module _ (s : List ℕ) (work activities out : ℕ) (a : Accepted s work activities out) where
  pub no_storage_for_a_clause : (before after : List Record) (c : List ℕ) → records_of s ≡ before ++ (clause c ∷ after)
      → ((add_clause (header s) (solver_after s before).state c).answer ≡ 2) ↔ NoStorage (header s) (solver_after s before).state c
  no_storage_for_a_clause before after c e =
      answer_two (formed_between s work activities out a before (clause c ∷ after) e).store (omega (arith, (limited s work activities out a).variables)) c
      (all_ranged s work activities out a (clause c) (subst (λ (l : List Record). clause c ∈ l) (sym e) (in_right before (here refl))))

  module _ {p : Place} {x : Solver} {t : State} {confl : ℕ} (m : Meets s p x t confl) where
    abbrev pub learnt : List ℕ
    learnt = (analyze (header s) (with_state x t) confl).clause

    pub no_storage_for_a_learnt-clause :
        (add_learnt_and_backtrack (header s) t learnt (analyze (header s) (with_state x t) confl).level ≡ none)
        ↔ ((2 ≤ length learnt) × Full (header s) t.store learnt)
    no_storage_for_a_learnt-clause =
        learnt_full (header s) t (clashes s work activities out a m).conflict.falsified.formed.store learnt
        (analyze (header s) (with_state x t) confl).level (learnt-clause s work activities out a m)

-- ---- 7. Demand 3, whole: for every accepted script, and any mix of clauses, solves, stopped solves and clauses refused storage.

pub demand_3 : (s : List ℕ) (work activities out : ℕ) → Accepted s work activities out → Demand3 s (run (header s) (records_of s))
demand_3 s work activities out a = run_demand s (fits s work activities out a)

-- of a script of no cells it is there, and empty
pub demand_3_of_none : Demand3 [] []
unfolding checks cells_of records_of records history entries all
demand_3_of_none = shows [] [] tt

-- what the book is told of each record of the run: the clauses taken before it, and the cells of its step
pub told_of_each : (s : List ℕ) (work activities out : ℕ) → Accepted s work activities out
    → (before : List Record) (r : Record) (after : List Record) → records_of s ≡ before ++ (r ∷ after)
    → entry (taken_before s before) r (step (header s) r (solver_after s before)).answer ∈ history s (run (header s) (records_of s))
told_of_each = told

-- same clauses, same assumptions: same verdict, in two scripts as in one
pub agreement : (s : List ℕ) (work activities out : ℕ) → Accepted s work activities out
    → (s' : List ℕ) (work' activities' out' : ℕ) → Accepted s' work' activities' out'
    → SameVerdict s (run (header s) (records_of s)) s' (run (header s') (records_of s'))
agreement s work activities out a s' work' activities' out' a' =
    (demand_3 s work activities out a).two_scripts s' (run (header s') (records_of s')) (demand_3 s' work' activities' out' a').answers

-- ---- 8. The mask of levels in mode 2 never shows, at every conflict of a run above level 0. (At level 0 nothing is learnt.)

module _ (s : List ℕ) (work activities out : ℕ) (a : Accepted s work activities out) (two : (header s).mode ≡ 2) {p : Place} {x : Solver} {t : State} {confl : ℕ}
    (m : Meets s p x t confl) where
  -- with the mask and without it the same clause is learnt; the run goes back to the same level, with the same activities
  pub mask_never_shows : analyze (header s) (with_state x t) confl ≡ analyze_unmasked (header s) (with_state x t) confl
  mask_never_shows =
      same_learnt (header s) two (with_state x t) confl (conflict s work activities out a m) (clashes s work activities out a m).conflict.tied

  -- besides the UIP it has exactly those literals of the clause before minimising that cannot be traced through reasons to level 0 and other literals
  -- of that clause alone
  pub mask_keeps_exactly : Keeps t.store t.vars (first_uip (header s) (with_state x t) confl).learnt (analyze (header s) (with_state x t) confl).clause
  mask_keeps_exactly =
      keeps (header s) two (with_state x t) confl (conflict s work activities out a m) (clashes s work activities out a m).conflict.tied
