-- The run: what a script gives, whole.
use Rattle.std.specs.Prelude.{ℕ, List, [], ◌∷◌, ◌++◌, length, drop, replicate, Float}
use Rattle.model.specs.State.{Solver, f64_zero, initial, with_state}
use Rattle.model.specs.Intake.{add_clause}
use Rattle.model.specs.Search as Search
use Rattle.model.specs.Search.{Solved}
use Rattle.model.specs.Script.{Config, Record, clause, solve, refused, accepted, read, work_needed}

-- a record's cells, and the solver that it leaves
unfoldable pub step : Config → Record → Solver → Solved
step cfg (clause c) x =
    let r = add_clause cfg x.state c in
    record { solver = with_state x r.state; answer = r.answer ∷ [] }
step cfg (solve assumptions budget) x = Search.solve cfg x assumptions budget

-- the out cells of records, each from the solver that the one before it left
unfoldable pub answers : Config → List Record → Solver → List ℕ
answers cfg [] x = []
answers cfg (r ∷ rs) x =
    let done = step cfg r x in
    done.answer ++ answers cfg rs done.solver

unfoldable pub run : Config → List Record → List ℕ
run cfg rs = answers cfg rs (initial cfg.variables)

-- ---- the entry: its answer, and what the lent slices hold afterwards

-- the number and the place of a refusal, or how many out cells the run wrote
pub data Answer : Type 0 where
  turned_back : ℕ → ℕ → Answer
  ran : ℕ → Answer

pub record After : Type 0 where
  pub answer : Answer
  pub work : List ℕ
  pub activities : List Float
  pub out : List ℕ

-- nothing is written
abbrev pub untouched : Answer → List ℕ → List Float → List ℕ → After
untouched answer work activities out = record { answer = answer; work = work; activities = activities; out = out }

-- out begins with the run's cells, the run's part of work and of the activities is zero, and all the rest is as found
abbrev pub after_run : Config → List Record → List ℕ → List Float → List ℕ → After
after_run cfg rs work activities out =
    let cells = run cfg rs in
    let used = work_needed cfg in
    let vars = cfg.variables in
    record {
      answer = ran (length cells);
      work = replicate used 0 ++ drop used work;
      activities = replicate vars f64_zero ++ drop vars activities;
      out = cells ++ drop (length cells) out;
    }

-- A script of no cells is a run that writes nothing, whatever was lent; a refusal writes nothing either.
unfoldable pub after : List ℕ → List ℕ → List Float → List ℕ → After
after [] work activities out = untouched (ran 0) work activities out
after (cell ∷ cells) work activities out =
    elim (read (cell ∷ cells) (length work) (length activities) (length out)) [
      | refused number place ↦ untouched (turned_back number place) work activities out
      | accepted cfg rs ↦ after_run cfg rs work activities out
    ]
