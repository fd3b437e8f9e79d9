-- What a run reaches: the solver before each turn of each search, and each conflict above level 0.
use Rattle.std.specs.Prelude.{◌≡◌, true, List, ◌∷◌, ◌++◌, ℕ, suc, ◌*◌, ◌<◌}
use Rattle.std.specs.Prelude.{Some as some}
use Rattle.model.specs.Lit.{neg}
use Rattle.model.specs.Luby.{luby}
use Rattle.model.specs.Script.{Config, Record, solve, header, records_of}
use Rattle.model.specs.State.{State, Solver, decision_level}
use Rattle.model.specs.Propagate.{propagate}
use Rattle.model.specs.Search.{Searched, Turn, goes_on, ends, turn, answer_of}
use Rattle.model.specs.Run.{step}
use Rattle.model.specs.Book.{Follows}
use Rattle.lawbase.specs.Basics.{◌∈◌, Every}
use Rattle.lawbase.specs.Sem.{Rup, Log}
use Rattle.ends.specs.Restart.{Again}
use Rattle.sound.specs.Verdict.{Solving}
use Rattle.laws.specs.Run.{solver_after, taken_before}

-- where a run stands before a turn: the records behind it; the solve's assumptions and budget; its restarts and its conflicts so far, and the
-- conflicts of the present search
pub record Place : Type 0 where
  pub before : List Record
  pub assumptions : List ℕ
  pub budget : ℕ
  pub restarts : ℕ
  pub conflicts : ℕ
  pub conflict_c : ℕ

module _ (before : List Record) (assumptions : List ℕ) (budget : ℕ) where
  abbrev pub place : ℕ → ℕ → ℕ → Place
  place restarts conflicts conflict_c =
      record { before = before; assumptions = assumptions; budget = budget; restarts = restarts; conflicts = conflicts; conflict_c = conflict_c }

-- a turn more; a search more
abbrev pub on_turn : Place → ℕ → ℕ → Place
on_turn p conflicts conflict_c = place p.before p.assumptions p.budget p.restarts conflicts conflict_c

abbrev pub on_restart : Place → ℕ → Place
on_restart p conflicts = place p.before p.assumptions p.budget (suc p.restarts) conflicts 0

-- the definition's turn there
abbrev pub turn_at : Config → Place → Solver → Turn
turn_at cfg p x = turn cfg p.assumptions p.budget (luby p.restarts * cfg.unit) p.conflicts p.conflict_c x

-- A run of the script stands there, with the solver.
pub data Reaches (s : List ℕ) : Place → Solver → Type 0 where
  -- a solve starts its first search, unless the clauses are known to have no model
  starts : (before after : List Record) (ps : List ℕ) (budget : ℕ) → records_of s ≡ before ++ (solve ps budget ∷ after)
      → (solver_after s before).state.ok ≡ true → Reaches s (place before ps budget 0 0 0) (solver_after s before)
  -- a turn goes on
  goes : (p : Place) (x : Solver) → Reaches s p x → (conflicts conflict_c : ℕ) (x' : Solver) → turn_at (header s) p x ≡ goes_on conflicts conflict_c x'
      → Reaches s (on_turn p conflicts conflict_c) x'
  -- a turn ends its search, and another follows
  restarts : (p : Place) (x : Solver) → Reaches s p x → (r : Searched) → turn_at (header s) p x ≡ ends r → Again p.budget r
      → Reaches s (on_restart p r.conflicts) r.solver

-- A turn of the run meets a conflict above level 0: propagation leaves the state t, in which clause `confl` is false.
pub record Meets (s : List ℕ) (p : Place) (x : Solver) (t : State) (confl : ℕ) : Type 0 where
  pub reached : Reaches s p x
  pub propagates : propagate (header s).variables x.state ≡ record { state = t; conflict = some confl }
  pub deep : 0 < decision_level t.vars

-- ---- what holds there

pub record Standing (s : List ℕ) (p : Place) (x : Solver) : Type 0 where
  pub range : Every (λ q. q < 2 * (header s).variables) p.assumptions
  -- the clauses learnt so far
  pub log : List (List ℕ)
  pub solving : Solving (header s) p.assumptions (taken_before s p.before) log x.state

-- A clause that follows from the clauses taken. Its evidence is a log, newest first, in which each clause comes by reverse unit propagation from those
-- before it and the clauses taken, and this one does so from all of them; the clauses learnt so far are such a log.
pub record Implied (n : ℕ) (taken : List (List ℕ)) (c : List ℕ) : Type 0 where
  pub log : List (List ℕ)
  pub logged : Log taken log
  pub rup : Rup (log ++ taken) c
  pub follows : Follows n taken c

-- a final clause: implied, and its literals are negated assumptions
pub record Refuted (n : ℕ) (taken : List (List ℕ)) (assumptions final : List ℕ) : Type 0 where
  pub implied : Implied n taken final
  pub negated : Every (λ l. neg l ∈ assumptions) final

-- ---- nothing is left out: a solve's answer comes from a turn that is reached

-- the last turn of a search
pub record LastTurn (s : List ℕ) (before : List Record) (ps : List ℕ) (budget restarts : ℕ) (r : Searched) : Type 0 where
  pub conflicts : ℕ
  pub conflict_c : ℕ
  pub from : Solver
  pub reached : Reaches s (place before ps budget restarts conflicts conflict_c) from
  pub ended : turn_at (header s) (place before ps budget restarts conflicts conflict_c) from ≡ ends r

-- the solve after the records `before`: the last turn of its last search gives its cells
pub record Answered (s : List ℕ) (before : List Record) (ps : List ℕ) (budget : ℕ) : Type 0 where
  pub end : Searched
  pub restarts : ℕ
  pub last : LastTurn s before ps budget restarts end
  pub cells : (step (header s) (solve ps budget) (solver_after s before)).answer ≡ answer_of end
