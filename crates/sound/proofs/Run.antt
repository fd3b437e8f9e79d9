-- The whole run: the book's demand holds of the answers that the definition gives.
use Rattle.std.specs.Prelude.{◌≡◌, ℕ, ◌≤◌, length, drop}
use Rattle.std.proofs.Math.Path.{refl}
use Rattle.std.proofs.Common.{sym, ap, arith, length-append, take_at, drop_at}
use mathlib.Core.List.Memᴰ.{head as here}
use mathlib.Core.List.{List, [], ◌∷◌, ◌++◌}
use Rattle.std.proofs.Math.Seq.{take-length}
use Rattle.model.specs.Limits as Limits
use Rattle.model.specs.Script.{Config, Record, clause, solve, header, records_of}
use Rattle.model.specs.State.{Solver, initial}
use Rattle.model.specs.Intake.{add_clause}
use Rattle.model.specs.Run.{step, answers, run}
use Rattle.model.specs.Book.{entry, answer_cells, taken_by, entries, cells_of, history, Demand3}
use Rattle.lawbase.specs.Basics.{Every, every_nil, every_cons, shrink}
use Rattle.lawbase.specs.Range.{Ranged}
use Rattle.book.specs.Demand.{FairSolve, Fair, demand, book-taken}
use Rattle.sound.specs.Sound.{Ready}
use Rattle.sound.proofs.Sound.{initial_ready}
use Rattle.sound.proofs.Taking.{add_ready, add_answer}
use Rattle.sound.proofs.Answers.{add_no_model}
use Rattle.sound.proofs.Solve.{solves}
use Rattle.sound.specs.Run.{Reads, Stepped, Fits}

-- ---- one record

clause_reads : (taken : List (List ℕ)) (c : List ℕ) (answer : ℕ) → Reads taken (clause c) (answer ∷ [])
unfolding entry answer_cells taken_by
clause_reads taken c answer = record { cells = λ out. refl; entry_is = λ out. refl; taken_is = λ out. refl }

module _ (taken : List (List ℕ)) (assumptions : List ℕ) (budget answer conflicts : ℕ) (body : List ℕ) where
  abbrev cells : List ℕ
  cells = answer ∷ conflicts ∷ length body ∷ body

  solve_reads : Reads taken (solve assumptions budget) cells
  unfolding entry answer_cells taken_by
  solve_reads =
      record {
        cells = λ out. omega arith;
        entry_is = λ out. rw (take_at body out (length body) refl, take-length body);
        taken_is = λ out. refl;
      }

  solve_fair : (n : ℕ) → FairSolve n taken assumptions answer body → Fair n (entry taken (solve assumptions budget) cells)
  unfolding entry
  solve_fair n f = rw (take-length body, book-taken taken) f

module _ (cfg : Config) (small : cfg.variables ≤ Limits.max_variables) (few : cfg.max_clauses ≤ Limits.max_clauses) (taken log : List (List ℕ)) where
  pub step_fair : (r : Record) → Ranged cfg.variables r → (x : Solver) → Ready cfg taken log x.state → Stepped cfg taken r (step cfg r x)
  unfolding step taken_by entry
  step_fair (clause c) g x k =
      record {
        reads = clause_reads taken c (add_clause cfg x.state c).answer;
        fair = rw (book-taken taken) (record { known = add_answer k (omega arith) c g; no_model = add_no_model k (omega arith) c g });
        log = log;
        ready = add_ready k (omega arith) c g;
      }
  step_fair (solve ps budget) g x k =
      let z = solves x k (omega arith) ps g budget in
      let t = z.told in
      record {
        reads = rw t.is (solve_reads taken ps budget t.answer t.conflicts t.body);
        fair = rw t.is (solve_fair taken ps budget t.answer t.conflicts t.body cfg.variables t.fair);
        log = z.log;
        ready = z.ready;
      }

-- ---- all of them

-- the answers to records: fair each, and all the cells there are
record FairAll (n : ℕ) (taken : List (List ℕ)) (rs : List Record) (out : List ℕ) : Type 0 where
  each : Every (Fair n) (entries taken rs out)
  whole : cells_of rs out ≡ length out

-- a record more
fair_more : (n : ℕ) (taken : List (List ℕ)) (r : Record) (rs : List Record) (answer out : List ℕ) → Reads taken r answer → Fair n (entry taken r answer)
    → FairAll n (taken_by taken r answer) rs out → FairAll n taken (r ∷ rs) (answer ++ out)
unfolding entries cells_of
fair_more n taken r rs answer out c f h =
    let rest : drop (answer_cells r (answer ++ out)) (answer ++ out) ≡ out = drop_at answer out (answer_cells r (answer ++ out)) (sym (c.cells out)) in
    record {
      each = rw (rest, c.entry_is out, c.taken_is out) (every_cons (Fair n) f h.each);
      whole = omega (arith, c.cells out, ap (cells_of rs) rest, h.whole, length-append answer out);
    }

module _ (cfg : Config) (small : cfg.variables ≤ Limits.max_variables) (few : cfg.max_clauses ≤ Limits.max_clauses) where
  answers_fair : (rs : List Record) → Every (Ranged cfg.variables) rs → (x : Solver) (taken log : List (List ℕ)) → Ready cfg taken log x.state
      → FairAll cfg.variables taken rs (answers cfg rs x)
  unfolding answers entries cells_of
  answers_fair [] g x taken log k = record { each = every_nil (Fair cfg.variables); whole = refl }
  answers_fair (r ∷ rs) g x taken log k =
      let s = step_fair cfg small few taken log r (g r (here refl)) x k in
      fair_more cfg.variables taken r rs (step cfg r x).answer (answers cfg rs (step cfg r x).solver) s.reads s.fair
      (answers_fair rs (shrink g) (step cfg r x).solver (taken_by taken r (step cfg r x).answer) s.log s.ready)

  run_fair : (rs : List Record) → Every (Ranged cfg.variables) rs → FairAll cfg.variables [] rs (run cfg rs)
  unfolding run initial
  run_fair rs g = answers_fair rs g (initial cfg.variables) [] [] (initial_ready cfg)

-- ---- demand 3

-- demand 3, of every script that fits
pub run_demand : (script : List ℕ) → Fits (header script) (records_of script) → Demand3 script (run (header script) (records_of script))
unfolding history
run_demand script f =
    let h = run_fair (header script) f.variables f.clauses (records_of script) f.records in
    demand script (run (header script) (records_of script)) (record { whole = h.whole; each = h.each })
