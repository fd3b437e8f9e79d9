-- What an accepted script brings, and the states that a run passes through between two records.
use Rattle.std.specs.Prelude.{◌≡◌, refl, ℕ, ◌≤◌, drop}
use Rattle.std.proofs.Common.{sym, drop_at}
use Rattle.std.proofs.Math.Path.{subst}
use mathlib.Core.List.Memᴰ.{append_left as in_left}
use mathlib.Core.List.Memᴰ.{head as here}
use mathlib.Core.List.Memᴰ.{tail as there}
use mathlib.Core.List.{List, [], ◌∷◌, ◌++◌}
use Rattle.model.specs.Limits as Limits
use Rattle.model.specs.Script.{Config, Record, clause, solve, header, records_of}
use Rattle.model.specs.State.{Solver, initial}
use Rattle.model.specs.Run.{step, answers, run}
use Rattle.model.specs.Book.{Entry, entry, answer_cells, taken_by, entries, history}
use Rattle.lawbase.specs.Basics.{◌∈◌, Every, shrink}
use Rattle.lawbase.specs.Range.{Ranged}
use Rattle.ends.specs.Bounds.{Limited}
use Rattle.sound.proofs.Sound.{initial_ready}
use Rattle.sound.specs.Run.{Fits, Reads}
use Rattle.sound.proofs.Run.{step_fair}
use Rattle.script.specs.Accepted.{Accepted, RecordFits}
use Rattle.laws.specs.Run.{taken_after, Between, left_by, taken_before, solver_after}

ranged : (v : ℕ) (r : Record) → RecordFits v r → Ranged v r
ranged v (clause c) f = f.literals
ranged v (solve ps budget) f = f.0.literals

module _ (s : List ℕ) (work activities out : ℕ) (a : Accepted s work activities out) where
  pub fits : Fits (header s) (records_of s)
  fits =
      record {
        variables = a.header_fits.variables;
        clauses = a.header_fits.clauses;
        records = λ r i. ranged (header s).variables r (a.records_fit r i);
      }

  pub limited : Limited (header s)
  limited =
      record {
        least_variables = a.header_fits.some_variable;
        variables = a.header_fits.variables;
        clauses = a.header_fits.clauses;
        least_unit = a.header_fits.some_unit;
        unit = a.header_fits.unit;
      }

  pub all_ranged : Every (Ranged (header s).variables) (records_of s)
  all_ranged r i = ranged (header s).variables r (a.records_fit r i)

taken_more : (taken : List (List ℕ)) (r : Record) (rs : List Record) (answer out : List ℕ) → Reads taken r answer
    → taken_after taken (r ∷ rs) (answer ++ out) ≡ taken_after (taken_by taken r answer) rs out
unfolding taken_after
taken_more taken r rs answer out c =
    rw (c.taken_is out, drop_at answer out (answer_cells r (answer ++ out)) (sym (c.cells out)))

told_more : (taken : List (List ℕ)) (r : Record) (rs : List Record) (answer out : List ℕ) → Reads taken r answer → {e : Entry}
    → e ∈ entries (taken_by taken r answer) rs out → e ∈ entries taken (r ∷ rs) (answer ++ out)
unfolding entries
told_more taken r rs answer out c i =
    there {xs = entries (taken_by taken r (answer ++ out)) rs (drop (answer_cells r (answer ++ out)) (answer ++ out))}
    (rw (c.taken_is out, drop_at answer out (answer_cells r (answer ++ out)) (sym (c.cells out))) i)

module _ {cfg : Config} (small : cfg.variables ≤ Limits.max_variables) (few : cfg.max_clauses ≤ Limits.max_clauses) where
  pub left_ready : (rs : List Record) (x : Solver) → Every (Ranged cfg.variables) rs → (taken : List (List ℕ)) → Between cfg taken x
      → Between cfg (taken_after taken rs (answers cfg rs x)) (left_by cfg rs x)
  unfolding left_by answers taken_after
  left_ready [] x f taken b = b
  left_ready (r ∷ rs) x f taken b =
      let s = step_fair cfg small few taken b.log r (f r (here refl)) x b.ready in
      let done = step cfg r x in
      subst (λ t. Between cfg t (left_by cfg rs done.solver)) (sym (taken_more taken r rs done.answer (answers cfg rs done.solver) s.reads))
      (left_ready rs done.solver (shrink f) (taken_by taken r done.answer) (record { log = s.log; ready = s.ready }))

  -- what the book is told of a record: the clauses taken before it, and the cells of its step
  pub told_at : (before : List Record) (r : Record) (after : List Record) (x : Solver) → Every (Ranged cfg.variables) (before ++ (r ∷ after))
      → (taken : List (List ℕ)) → Between cfg taken x
      → entry (taken_after taken before (answers cfg before x)) r (step cfg r (left_by cfg before x)).answer
      ∈ entries taken (before ++ (r ∷ after)) (answers cfg (before ++ (r ∷ after)) x)
  unfolding left_by answers taken_after entries
  told_at [] r after x f taken b =
      let s = step_fair cfg small few taken b.log r (f r (here refl)) x b.ready in
      here (sym (s.reads.entry_is (answers cfg after (step cfg r x).solver)))
  told_at (q ∷ before) r after x f taken b =
      let s = step_fair cfg small few taken b.log q (f q (here refl)) x b.ready in
      let done = step cfg q x in
      rw (taken_more taken q before done.answer (answers cfg before done.solver) s.reads)
      (told_more taken q (before ++ (r ∷ after)) done.answer (answers cfg (before ++ (r ∷ after)) done.solver) s.reads
      (told_at before r after done.solver (shrink f) (taken_by taken q done.answer) (record { log = s.log; ready = s.ready })))

module _ (s : List ℕ) (work activities out : ℕ) (a : Accepted s work activities out) where
  pub between : (before after : List Record) → records_of s ≡ before ++ after → Between (header s) (taken_before s before) (solver_after s before)
  unfolding initial
  between before after e =
      left_ready a.header_fits.variables a.header_fits.clauses before (initial (header s).variables)
      (λ r i. (fits s work activities out a).records r (subst (λ (l : List Record). r ∈ l) (sym e) (in_left after i)))
      [] (record { log = []; ready = initial_ready (header s) })

  pub told : (before : List Record) (r : Record) (after : List Record) → records_of s ≡ before ++ (r ∷ after)
      → entry (taken_before s before) r (step (header s) r (solver_after s before)).answer ∈ history s (run (header s) (records_of s))
  unfolding history run initial
  told before r after e =
      let x = initial (header s).variables in
      subst
      (λ (rs : List Record).
      entry (taken_before s before) r (step (header s) r (solver_after s before)).answer ∈ entries [] rs (answers (header s) rs x))
      (sym e)
      (told_at a.header_fits.variables a.header_fits.clauses before r after x
      (subst (Every (Ranged (header s).variables)) e (fits s work activities out a).records)
      [] (record { log = []; ready = initial_ready (header s) }))
