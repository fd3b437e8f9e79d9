-- A solve: what its answer says of the clauses taken, and that it leaves a state that says so of them again.
use Rattle.std.specs.Prelude.{◌≡◌, Bool, ◌&&◌, ℕ, suc, ◌*◌, ◌≤◌, ◌<◌, length, T}
use Rattle.std.proofs.Math.Path.{refl}
use Rattle.std.proofs.Common.{sym, ◌∙◌, subst, true≢false, arith, lt→ltb}
use Rattle.std.proofs.Math.Bool.{true, false}
use mathlib.Core.List.{List, [], ◌∷◌}
use Rattle.model.specs.Lit.{neg, no_reason, l_true, l_false, l_undef}
use Rattle.model.specs.Script.{Config}
use Rattle.model.specs.State.{State, Solver, with_state}
use Rattle.model.specs.Trail.{cancel_until}
use Rattle.model.specs.Search as Search
use Rattle.model.specs.Search.{Status, TRUE, FALSE, UNDEF, NO_STORAGE, Searched, most_conflicts, solve_internal, cells, answer_of, still_ok, Solved, solve}
use Rattle.model.specs.Book.{all, any, has, in_range_of, is_common, is_cause, Follows}
use Rattle.lawbase.specs.Basics.{Every}
use Rattle.lawbase.specs.WellFormed.{WellFormed}
use Rattle.assign.proofs.Back.{cancel_ok, cancel_level, cancel_formed}
use Rattle.assign.proofs.Searching.{ok_formed, searching_start}
use Rattle.book.specs.Booleans.{and, every_all}
use Rattle.watching.specs.Watching.{Watching}
use Rattle.watching.proofs.MoreMoves.{cancel_watching}
use Rattle.watching.proofs.Moves.{back_watching}
use Rattle.sound.specs.Sound.{Sound, Ready}
use Rattle.sound.proofs.Answers.{bad_follows}
use Rattle.sound.proofs.Satisfied.{rup_none}
use Rattle.sound.proofs.Steps.{cancel_sound, bad_sound}
use Rattle.sound.specs.Verdict.{Solving, Verdict, models, refutes, fails, undecided, no_storage}
use Rattle.sound.specs.Searches.{Ended}
use Rattle.sound.proofs.Searches.{internal_ended}
use Rattle.sound.specs.Solve.{Told, Solves}

-- ---- the answer

literals_in : (n : ℕ) (ls : List ℕ) → Every (λ l. l < 2 * n) ls → T (all (in_range_of n) ls)
unfolding in_range_of
literals_in n ls h = every_all (in_range_of n) ls (λ l i. lt→ltb l (2 * n) (h l i))

clauses_in : (n : ℕ) (F : List (List ℕ)) → Every (λ c. Every (λ l. l < 2 * n) c) F → T (all (all (in_range_of n)) F)
clauses_in n F h = every_all (all (in_range_of n)) F (λ c i. literals_in n c (h c i))

abbrev InRange : ℕ → List (List ℕ) → List ℕ → Type 0
InRange n taken ps = T (all (all (in_range_of n)) taken && all (in_range_of n) ps)

module _ (n : ℕ) (taken : List (List ℕ)) (ps : List ℕ) (range : InRange n taken ps) (conflicts : ℕ) where
  told_true : (body : List ℕ) → T (is_common n taken ps body) → Told n taken ps (cells l_true conflicts body)
  unfolding cells
  told_true body h =
      record {
        answer = l_true;
        conflicts = conflicts;
        body = body;
        is = refl;
        fair = record {
          in_range = range;
          known = omega arith;
          true_shows = λ e. h;
          final_negated = λ e. absurd (omega arith);
          final_follows = λ e. absurd (omega arith);
          stopped_cause = λ e. absurd (omega arith);
        };
      }

  told_false : (body : List ℕ) → Follows n taken body → T (all (λ l. has ps (neg l)) body) → Told n taken ps (cells l_false conflicts body)
  unfolding cells
  told_false body f g =
      record {
        answer = l_false;
        conflicts = conflicts;
        body = body;
        is = refl;
        fair = record {
          in_range = range;
          known = omega arith;
          true_shows = λ e. absurd (omega arith);
          final_negated = λ e. g;
          final_follows = λ e. f;
          stopped_cause = λ e. absurd (omega arith);
        };
      }

  told_undef : (body : List ℕ) → T (is_cause body) → Told n taken ps (cells l_undef conflicts body)
  unfolding cells
  told_undef body h =
      record {
        answer = l_undef;
        conflicts = conflicts;
        body = body;
        is = refl;
        fair = record {
          in_range = range;
          known = omega arith;
          true_shows = λ e. absurd (omega arith);
          final_negated = λ e. absurd (omega arith);
          final_follows = λ e. absurd (omega arith);
          stopped_cause = λ e. h;
        };
      }

-- the cells by status
told_cells : ℕ → Status → List ℕ → List ℕ
told_cells conflicts st values =
    elim st [
      | TRUE ↦ cells l_true conflicts values
      | FALSE final ↦ cells l_false conflicts final
      | UNDEF ↦ cells l_undef conflicts (Search.cause_budget ∷ [])
      | NO_STORAGE ↦ cells l_undef conflicts (Search.cause_no_storage ∷ [])
    ]

told_verdict : {cfg : Config} {ps : List ℕ} {taken : List (List ℕ)} → InRange cfg.variables taken ps → (conflicts : ℕ) {st : Status} {s : State}
    → Verdict cfg ps taken st s → Told cfg.variables taken ps (told_cells conflicts st s.vars.values)
unfolding told_cells all any has is_cause
told_verdict {cfg} {ps} {taken} r conflicts (models s log k h) = told_true cfg.variables taken ps r conflicts s.vars.values h
told_verdict {cfg} {ps} {taken} r conflicts (refutes s log k) =
    told_false cfg.variables taken ps r conflicts [] (rup_none cfg.variables taken log k.sound.logged k.rup) tt
told_verdict {cfg} {ps} {taken} r conflicts (fails s log k final h) = told_false cfg.variables taken ps r conflicts final h.follows h.negated
told_verdict {cfg} {ps} {taken} r conflicts (undecided s log k) = told_undef cfg.variables taken ps r conflicts (Search.cause_budget ∷ []) tt
told_verdict {cfg} {ps} {taken} r conflicts (no_storage s log k) = told_undef cfg.variables taken ps r conflicts (Search.cause_no_storage ∷ []) tt

-- ---- back to level 0

module _ {cfg : Config} {taken log : List (List ℕ)} {s : State} (w : WellFormed cfg s) (k : Sound cfg.variables taken log s) where
  back_ready : (s.ok ≡ true → Watching cfg (cancel_until cfg.phase s 0)) → Ready cfg taken log (cancel_until cfg.phase s 0)
  back_ready h =
      record {
        formed = cancel_formed w cfg.phase 0;
        watching = λ e. h (sym (cancel_ok cfg.phase s 0) ∙ e);
        level = omega (arith, cancel_level cfg.phase s 0 w.vars);
        sound = cancel_sound k cfg.phase 0 w.vars;
      }

solving_ready : {cfg : Config} {ps : List ℕ} {taken log : List (List ℕ)} {s : State} → Solving cfg ps taken log s
    → Ready cfg taken log (cancel_until cfg.phase s 0)
solving_ready {cfg} k = back_ready k.watching.formed k.sound (λ e. cancel_watching k.watching cfg.phase 0)

-- a final clause that is not empty leaves `ok` alone
some_ok : (final : List ℕ) (s : State) → 0 < length final → still_ok (FALSE final) s ≡ s
unfolding still_ok
some_ok [] s h = absurd (omega arith)
some_ok (l ∷ ls) s h = refl

verdict_ready : {cfg : Config} {ps : List ℕ} {taken : List (List ℕ)} {st : Status} {s : State} → Verdict cfg ps taken st s
    → (log : List (List ℕ)) × Ready cfg taken log (cancel_until cfg.phase (still_ok st s) 0)
unfolding still_ok
verdict_ready (models s log k h) = (log, solving_ready k)
verdict_ready (refutes s log k) = (log, back_ready (ok_formed k.formed false) (bad_sound k.sound k.rup) (λ e. absurd (true≢false (sym e))))
verdict_ready {cfg} {ps} {taken} (fails s log k final h) =
    (log, subst (λ x. Ready cfg taken log (cancel_until cfg.phase x 0)) (sym (some_ok final s h.some)) (solving_ready k))
verdict_ready (undecided s log k) = (log, solving_ready k)
verdict_ready {cfg} (no_storage s log k) =
    (log, back_ready k.returning.formed k.sound (λ e. back_watching k.returning cfg.phase 0 k.deep))

-- ---- the solve

-- by `ok`
solve_by : Config → Solver → List ℕ → ℕ → Bool → Solved
solve_by cfg x ps budget b =
    elim b [
      | false ↦ record { solver = x; answer = cells l_false 0 [] }
      | true ↦
          let r = solve_internal cfg ps budget (suc (most_conflicts cfg)) 0 0 x in
          let s = still_ok r.status r.solver.state in
          record { solver = with_state r.solver (cancel_until cfg.phase s 0); answer = answer_of r }
    ]

ended_solves : {cfg : Config} {ps : List ℕ} {taken : List (List ℕ)} → InRange cfg.variables taken ps → (r : Searched) → Ended cfg ps taken r
    → Solves cfg taken ps
    (record { solver = with_state r.solver (cancel_until cfg.phase (still_ok r.status r.solver.state) 0); answer = answer_of r })
unfolding answer_of told_cells
ended_solves g r v =
    let h = verdict_ready v in
    record { log = h.0; ready = h.1; told = told_verdict g r.conflicts v }

module _ {cfg : Config} {taken log : List (List ℕ)} (x : Solver) (k : Ready cfg taken log x.state) (small : cfg.max_clauses ≤ no_reason)
    (ps : List ℕ) (range : Every (λ p. p < 2 * cfg.variables) ps) (budget : ℕ) where
  first_solving : x.state.ok ≡ true → Solving cfg ps taken log x.state
  first_solving e = record { searching = searching_start k.formed ps k.level; watching = k.watching e; sound = k.sound; ok = e }

  in_range : InRange cfg.variables taken ps
  in_range =
      and (all (all (in_range_of cfg.variables)) taken) (all (in_range_of cfg.variables) ps)
      (clauses_in cfg.variables taken k.sound.range) (literals_in cfg.variables ps range)

  solve_gives : (b : Bool) → x.state.ok ≡ b → Solves cfg taken ps (solve_by cfg x ps budget b)
  unfolding solve_by all
  solve_gives false e = record { log = log; ready = k; told = told_false cfg.variables taken ps in_range 0 [] (bad_follows k.sound e) tt }
  solve_gives true e =
      ended_solves in_range (solve_internal cfg ps budget (suc (most_conflicts cfg)) 0 0 x)
      (internal_ended cfg small ps range taken budget (suc (most_conflicts cfg)) 0 0 x log (first_solving e))

  pub solves : Solves cfg taken ps (solve cfg x ps budget)
  unfolding solve solve_by
  solves = solve_gives x.state.ok refl
