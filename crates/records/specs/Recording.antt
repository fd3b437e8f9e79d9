-- What a record's step leaves in the slices, and what a loop over the records keeps.
use Rattle.std.specs.Prelude.{ℕ, ◌+◌, ◌*◌, ◌-◌, ◌≤◌, ◌≡◌, take, drop}
use Rattle.std.proofs.Common.{arith, sym, ◌∙◌, take-append-drop, drop-drop, length-take-le, zero-add}
use Rattle.std.proofs.Math.Path.{refl, ap, subst}
use mathlib.Core.List.{List, [], ◌∷◌, ◌++◌, append_assoc, append-nil}
use Rattle.std.proofs.Math.ListN.{length}
use Rattle.std.proofs.Math.Seq.{paste, take-length}
use Rattle.std.proofs.lemmas.List.{length-replicate, length-drop}
use Rattle.std.proofs.Math.ListN.{drop_of_length-le}
use borrow.Rule.Slice.PartMut.{put_mid}
use Rattle.std.proofs.lemmas.List.Edits.{take-paste, drop-paste, length-paste}
use Rattle.model.specs.Limits as Limits
use Rattle.model.specs.Script as Script
use Rattle.model.specs.Script.{Record, clause, solve, clause_kind, solve_kind, kind_of, cost, header, records_of, out_needed, work_needed}
use Rattle.model.specs.State.{State, Solver, initial, initial_state, initial_activity, f64_zero, decision_level}
use Rattle.model.specs.Search.{Solved}
use Rattle.model.specs.Run.{step, answers, run}
use Rattle.script.specs.Kinds.{literals_of, most_count_le}
use Rattle.script.specs.Front as script
use Rattle.script.specs.Accepted.{RecordFits}
use Rattle.script.specs.declared.Script as code
use Rattle.lawbase.specs.Basics.{Every, shrink}
use mathlib.Core.List.Memᴰ.{head as here}
use Rattle.ends.specs.Answer.{Idle}
use Rattle.ends.proofs.AnswerShort.{solve_short}
use Rattle.ends.specs.Bounds.{Limited}
use Rattle.ends.proofs.Out.{initial_idle}
use Rattle.state.specs.declared.Config.{Config}
use Rattle.state.specs.Still.{config_of, state_at}
use Rattle.state.specs.Start.{Room, Started}
use Rattle.search.specs.Held.{solver_at, Assumable}
use Rattle.search.specs.declared.Solver as search
use Rattle.answer.specs.Answered.{Between, Answered}

-- the run is its steps
pub answers_step : (cfg : Script.Config) (r : Record) (rs : List Record) (x : Solver)
    → answers cfg (r ∷ rs) x ≡ (step cfg r x).answer ++ answers cfg rs (step cfg r x).solver
unfolding answers
answers_step cfg r rs x = refl

answers_none : (cfg : Script.Config) (x : Solver) → answers cfg [] x ≡ []
unfolding answers
answers_none cfg x = refl

-- ---- one record

-- its literals fit, and out has room for its answer
pub record Fits (g : Config) (r : Record) (n : ℕ) : Type 0 where
  pub literals : Assumable g (literals_of r)
  pub room : cost (kind_of r) g.vars ≤ n

module _ {g : Config} {n : ℕ} where
  pub fits_clause : {literals : List ℕ} → Fits g (clause literals) n → 1 ≤ n
  unfolding cost kind_of
  fits_clause f = f.room

  pub fits_solve : {assumptions : List ℕ} {budget : ℕ} → Fits g (solve assumptions budget) n → g.vars + Limits.solve_besides ≤ n
  unfolding cost kind_of
  fits_solve f = f.room

-- the definition's step of a record
abbrev pub done : Record → search.Solver → Solved
done r x = step (config_of x.state.config) r (solver_at x)

-- what the step of a record leaves
abbrev pub Stepped : Record → search.Solver → search.Solver → List ℕ → List ℕ → ℕ → Type 0
Stepped r x x' out out' n = Answered (done r x).solver (done r x).answer x x' out out' n

-- a step's cells are never more than its cost
step_short : {cfg : Script.Config} (l : Limited cfg) (r : Record) → RecordFits cfg.variables r → (x : Solver) → Idle cfg x.state → length (step cfg r x).answer ≤ cost (kind_of r) cfg.variables
unfolding step cost kind_of
step_short l (clause literals) f x i = omega arith
step_short l (solve assumptions budget) f x i = solve_short l x assumptions f.0.literals budget i

-- ---- all records

-- an accepted script with n work cells, m activities and o out cells: work and activities are the run's own parts
pub record Lent (s : code.Script) (n m o : ℕ) : Type 0 where
  pub limited : Limited (script.config_of s.header)
  pub work : n ≡ work_needed (script.config_of s.header)
  pub counted : m ≡ s.header.variables
  pub literals : s.header.literals ≤ Limits.max_literals
  pub records : Every (RecordFits s.header.variables) (records_of s.cells.now)
  pub fits : out_needed s.header.variables (records_of s.cells.now) ≤ o

-- the blocks of the state fit
module _ {s : code.Script} {n m o : ℕ} (l : Lent s n m o) (g : Config) (e : config_of g ≡ script.config_of s.header) where
  need_is : Limits.work_per_variable * g.vars + Limits.work_per_clause * g.room + g.lit_room + Limits.work_besides ≡ work_needed (script.config_of s.header)
  unfolding work_needed
  need_is = ap work_needed e

  lits : g.lit_room ≤ Limits.max_literals
  lits = omega (arith, l.literals, ap (λ (c : Script.Config). c.max_literals) e)

  pub vars_are : g.vars ≡ s.header.variables
  vars_are = ap (λ (c : Script.Config). c.variables) e

  pub limited_in : Limited (config_of g)
  limited_in = subst Limited (sym e) l.limited

  pub room_in : Room g n
  room_in = let t = limited_in in record { fits = omega (arith, l.work, need_is); some = t.least_variables; vars = t.variables; room = t.clauses; lit_room = lits }

-- out begins with the run's n cells, and the rest of it is as found
pub record Written (s out : List ℕ) (n : ℕ) (out' : List ℕ) : Type 0 where
  pub count : n ≡ length (run (header s) (records_of s))
  pub cells : out' ≡ run (header s) (records_of s) ++ drop (length (run (header s) (records_of s))) out

-- o cells are written, and the records rs that are left give the rest of the run
pub record Recording (cfg : Script.Config) (s out₀ : List ℕ) (x : search.Solver) (rs : List Record) (o : ℕ) (out : List ℕ) : Type 0 where
  pub between : Between x
  pub config : config_of x.state.config ≡ cfg
  pub records : Every (RecordFits cfg.variables) rs
  pub written : take o out ++ answers cfg rs (solver_at x) ≡ run cfg (records_of s)
  pub rest : drop o out ≡ drop o out₀
  pub size : length out ≡ length out₀
  pub room : o + out_needed cfg.variables rs ≤ length out₀

-- the first state
module _ (g : Config) (l : Limited (config_of g)) (x : search.Solver) {w : List ℕ} (started : Started g w x.state) (filled : x.activity ≡ initial_activity g.vars) where
  first_solver : solver_at x ≡ initial g.vars
  unfolding initial
  first_solver = rw (started.has.state, filled)

  first_between : Between x
  unfolding initial initial_state initial_activity
  first_between =
      record {
        still = started.has.still;
        level = ap (λ (s : State). decision_level s.vars) started.has.state;
        idle = rw (started.has.state, started.config) (initial_idle l);
        counted = rw (filled, started.config) (length-replicate g.vars f64_zero);
      }

  pub recording_start : (s out : List ℕ) (rs : List Record) → rs ≡ records_of s → Every (RecordFits g.vars) (records_of s) → out_needed g.vars (records_of s) ≤ length out
      → Recording (config_of g) s out x rs 0 out
  unfolding run
  recording_start s out rs e r f =
      rw e
      (record {
        between = first_between;
        config = ap config_of started.config;
        records = r;
        written = ap (answers (config_of g) (records_of s)) first_solver;
        rest = refl;
        size = refl;
        room = omega (arith, f);
      })

pub recording_first : (s : code.Script) (out : List ℕ) {n m : ℕ} (l : Lent s n m (length out)) (g : Config) (e : config_of g ≡ script.config_of s.header) (x : search.Solver) {w : List ℕ}
    → Started g w x.state → x.activity ≡ initial_activity g.vars → (rs : List Record) → rs ≡ records_of s.cells.now → Recording (script.config_of s.header) s.cells.now out x rs 0 out
recording_first s out l g e x t f rs q =
    subst (λ (c : Script.Config). Recording c s.cells.now out x rs 0 out) e
    (recording_start g (limited_in l g e) x t f s.cells.now out rs q (rw (vars_are l g e) l.records) (rw (vars_are l g e) l.fits))

-- its literals are as a solve and a clause ask
assumable : (g : Config) (r : Record) → RecordFits g.vars r → Assumable g (literals_of r)
assumable g (clause literals) f = record { count = omega (arith, f.count, most_count_le clause_kind g.vars); range = f.literals }
assumable g (solve assumptions budget) f = record { count = omega (arith, f.0.count, most_count_le solve_kind g.vars); range = f.0.literals }

-- the part of out that is lent from o on, and out with it put back
module _ (out : List ℕ) (o : ℕ) where
  pub rest_is : take (length out - o) (drop o out) ≡ drop o out
  rest_is = ap (λ (n : ℕ). take n (drop o out)) (sym (length-drop o out)) ∙ take-length (drop o out)

  pub rest_length : length (take (length out - o) (drop o out)) ≡ length out - o
  rest_length = ap length rest_is ∙ length-drop o out

  pub put_back : (ys : List ℕ) → o ≤ length out → put_mid o (length out - o) out ys ≡ take o out ++ ys
  put_back ys h =
      ap (λ (zs : List ℕ). take o out ++ (ys ++ zs)) (drop_of_length-le (drop o out) (omega (arith, length-drop o out)))
      ∙ ap (λ (zs : List ℕ). take o out ++ zs) (append-nil ys)

-- a record more
module _ (cfg : Script.Config) (l : Limited cfg) (s out₀ : List ℕ) (x : search.Solver) (r : Record) (rs : List Record) (o : ℕ) (out : List ℕ) (k : Recording cfg s out₀ x (r ∷ rs) o out) where
  fits : RecordFits cfg.variables r
  fits = k.records r (here refl)

  vars : x.state.config.vars ≡ cfg.variables
  vars = ap (λ (c : Script.Config). c.variables) k.config

  needed : out_needed cfg.variables (r ∷ rs) ≡ cost (kind_of r) cfg.variables + out_needed cfg.variables rs
  unfolding out_needed
  needed = refl

  pub recording_fits : (n : ℕ) → n ≡ length out - o → Fits x.state.config r n
  recording_fits n e = record { literals = assumable x.state.config r (rw vars fits); room = rw vars (omega (arith, e, k.room, k.size, needed)) }

  short : length (done r x).answer ≤ cost (kind_of r) cfg.variables
  short =
      subst (λ (c : Script.Config). length (step c r (solver_at x)).answer ≤ cost (kind_of r) cfg.variables) (sym k.config)
      (step_short l r fits (solver_at x) (subst (λ (c : Script.Config). Idle c (state_at x.state)) k.config k.between.idle))

  -- the cells at the front of what is left of out, which the rest follows
  module _ (y : search.Solver) (n : ℕ) (ys : List ℕ) (b : Stepped r x y (take (length out - o) (drop o out)) ys n) where
    abbrev out' : List ℕ
    out' = put_mid o (length out - o) out ys

    a : Stepped r x y (drop o out) ys n
    a = subst (λ (d : List ℕ). Stepped r x y d ys n) (rest_is out o) b

    abbrev m : List ℕ
    m = (done r x).answer

    abbrev k' : ℕ
    k' = length m

    inside : o + k' ≤ length out
    inside = omega (arith, short, k.room, k.size, needed)

    pasted : out' ≡ paste out o m k'
    pasted =
        put_back out o ys (omega (arith, k.room, k.size)) ∙ ap (λ (c : List ℕ). take o out ++ c) a.put.0
        ∙ sym (append_assoc (take o out) (take k' m) (drop (0 + k') (drop o out)))
        ∙ ap (λ (c : List ℕ). (take o out ++ take k' m) ++ c) (ap (λ (i : ℕ). drop i (drop o out)) (zero-add k') ∙ drop-drop k' o out)

    taken : take (o + k') out' ≡ take o out ++ m
    taken = ap (take (o + k')) pasted ∙ take-paste out o m k' (omega (arith, inside)) (omega arith) ∙ ap (λ (c : List ℕ). take o out ++ c) (take-length m)

    left : drop (o + k') out' ≡ drop (o + k') out₀
    left =
        ap (drop (o + k')) pasted ∙ drop-paste out o m k' (omega (arith, inside)) (omega arith)
        ∙ sym (drop-drop k' o out) ∙ ap (drop k') k.rest ∙ drop-drop k' o out₀

    sized : length out' ≡ length out₀
    sized = ap length pasted ∙ length-paste out o m k' inside (omega arith) ∙ k.size

    pub recording_step : Recording cfg s out₀ y rs (o + n) out'
    recording_step =
        rw a.put.1
        (record {
          between = a.between;
          config = ap config_of a.kept.config ∙ k.config;
          records = shrink k.records;
          written =
              ap (λ (c : List ℕ). c ++ answers cfg rs (solver_at y)) taken
              ∙ ap (λ (z : Solver). (take o out ++ m) ++ answers cfg rs z) a.solver
              ∙ append_assoc (take o out) m (answers cfg rs (done r x).solver)
              ∙ ap (λ (c : List ℕ). take o out ++ c) (ap (λ (h : Script.Config). (step h r (solver_at x)).answer ++ answers cfg rs (step h r (solver_at x)).solver) k.config ∙ sym (answers_step cfg r rs (solver_at x)))
              ∙ k.written;
          rest = left;
          size = sized;
          room = omega (arith, k.room, needed, short);
        })

-- no record is left
module _ (cfg : Script.Config) (s out₀ : List ℕ) (x : search.Solver) (o : ℕ) (out : List ℕ) (k : Recording cfg s out₀ x [] o out) (e : cfg ≡ header s) where
  cells_are : take o out ≡ run (header s) (records_of s)
  cells_are =
      sym (append-nil (take o out)) ∙ ap (λ (c : List ℕ). take o out ++ c) (sym (answers_none cfg (solver_at x)))
      ∙ k.written ∙ ap (λ (c : Script.Config). run c (records_of s)) e

  count_is : o ≡ length (run (header s) (records_of s))
  count_is = sym (length-take-le o out (omega (arith, k.room, k.size))) ∙ ap length cells_are

  pub recording_end : Written s out₀ o out
  recording_end =
      record {
        count = count_is;
        cells =
            sym (take-append-drop o out) ∙ ap (λ (c : List ℕ). c ++ drop o out) cells_are
            ∙ ap (λ (c : List ℕ). run (header s) (records_of s) ++ c) (k.rest ∙ ap (λ (n : ℕ). drop n out₀) count_is);
      }
