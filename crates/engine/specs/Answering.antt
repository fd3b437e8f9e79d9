-- A run and a refusal, each with what it promises.
use Rattle.std.specs.Prelude.{ℕ, zero, suc, ◌≤◌, ◌≡◌, ◌==◌, true, false, refl, List, [], ◌∷◌, ◌++◌, length, take, drop, replicate, Float, Result, Ok, Err, IsErrAnd}
use Rattle.std.proofs.Common.{arith, sym, ap, ◌∙◌, subst, eqb-true}
use Rattle.std.proofs.Math.Seq.{take-append_seam}
use Rattle.model.specs.Script as Script
use Rattle.model.specs.Script.{Record, Reading, refused, accepted, header, records_of, work_needed, read}
use Rattle.model.specs.State.{f64_zero}
use Rattle.model.specs.Run as model
use Rattle.model.specs.Run.{after, After, after_run, untouched, run}
use Rattle.model.specs.Book.{Demand3}
use Rattle.script.specs.Accepted.{Accepted, accepted_read}
use Rattle.laws.proofs.Theorems.{demand_3, demand_3_of_none}
use Rattle.refusal.specs.declared.Refusal.{Refusal}
use Rattle.refusal.specs.Number.{number}
use Rattle.records.specs.Recording.{Written}
use Rattle.engine.specs.Numbers.{refused_numbered}
use Rattle.engine.specs.Runs.{answer_of, number_of, value_of, Runs, Gives}

-- ---- the cases of `after`

abbrev read_over : List ℕ → List ℕ → List Float → List ℕ → Reading
read_over s w acts o = read s (length w) (length acts) (length o)

pub after_cases : (P : After → Type 0) (s w : List ℕ) (acts : List Float) (o : List ℕ)
    → (s ≡ [] → P (untouched (model.ran 0) w acts o))
    → ((number place : ℕ) → read_over s w acts o ≡ refused number place → P (untouched (model.turned_back number place) w acts o))
    → ((cfg : Script.Config) (rs : List Record) → read_over s w acts o ≡ accepted cfg rs → P (after_run cfg rs w acts o)) → P (after s w acts o)
unfolding after
after_cases P [] w acts o f g h = f refl
after_cases P (c ∷ s) w acts o f g h = go (read_over (c ∷ s) w acts o) refl
  where
    go : (x : Reading) → read_over (c ∷ s) w acts o ≡ x → P (after (c ∷ s) w acts o)
    go (refused number place) e = rw (e, after) (g number place e)
    go (accepted cfg rs) e = rw (e, after) (h cfg rs e)

pub after_refused : (s w : List ℕ) (acts : List Float) (o : List ℕ) → 1 ≤ length s → (number place : ℕ) → read_over s w acts o ≡ refused number place
    → after s w acts o ≡ untouched (model.turned_back number place) w acts o
unfolding after
after_refused [] w acts o some number place e = absurd (omega (arith, some))
after_refused (c ∷ s) w acts o some number place e = rw (e, after)

after_accepted : (s w : List ℕ) (acts : List Float) (o : List ℕ) → 1 ≤ length s → read_over s w acts o ≡ accepted (header s) (records_of s)
    → after s w acts o ≡ after_run (header s) (records_of s) w acts o
unfolding after
after_accepted [] w acts o some e = absurd (omega (arith, some))
after_accepted (c ∷ s) w acts o some e = rw (e, after)

pub no_cells : (n : ℕ) → true ≡ (n == 0) → n ≡ 0
no_cells n e = eqb-true n 0 (sym e)

pub some_cells : (n : ℕ) → false ≡ (n == 0) → 1 ≤ n
some_cells zero e = let z : false ≡ true = e in cc
some_cells (suc n) e = omega arith

-- a script of no cells
pub runs_none : (s w : List ℕ) (acts : List Float) (o : List ℕ) → length s ≡ 0 → Runs s w acts o (Ok 0) w acts o
unfolding after
runs_none [] w acts o z =
    record {
      answer = refl;
      work = refl;
      activities = refl;
      out = refl;
      demand = λ cells f. subst (λ (i : ℕ). Demand3 [] (take i o)) (ap value_of f) demand_3_of_none;
    }
runs_none (c ∷ s) w acts o z = absurd (omega (arith, z))

module _ (s w : List ℕ) (acts : List Float) (o : List ℕ) where
  refuses : (cells number place : ℕ) → ◌≡◌ {A = model.Answer} (model.turned_back number place) (model.ran cells) → ⊥
  refuses cells number place e = let q : ◌≡◌ {A = ℕ} 0 1 = cc in omega (arith, q)

  pub refusal_numbered : (number place : ℕ) → (after s w acts o).answer ≡ model.turned_back number place → 1 ≤ number
  refusal_numbered number place =
      after_cases (λ (x : After). x.answer ≡ model.turned_back number place → 1 ≤ number) s w acts o (λ e f. absurd (refuses 0 number place (sym f)))
      (λ n p e f. let q : n ≡ number = ap number_of f in omega (arith, q, refused_numbered s (length w) (length acts) (length o) n p e))
      (λ cfg rs e f. absurd (refuses (length (run cfg rs)) number place (sym f)))

  runs_refused : 1 ≤ length s → (e : Refusal) → refused (number e.rule) e.place ≡ read s (length w) (length acts) (length o) → Runs s w acts o (Err e) w acts o
  runs_refused some e h =
      let q = after_refused s w acts o some (number e.rule) e.place (sym h) in
      record {
        answer = sym (ap (λ (x : After). x.answer) q);
        work = sym (ap (λ (x : After). x.work) q);
        activities = sym (ap (λ (x : After). x.activities) q);
        out = sym (ap (λ (x : After). x.out) q);
        demand = λ cells f. absurd (refuses cells (number e.rule) e.place f);
      }

  -- the refusal that a `?` hands on
  pub runs_raised : 1 ≤ length s → (e : Refusal) (r : Result ℕ Refusal) → IsErrAnd r (λ x. x ≡ e)
      → refused (number e.rule) e.place ≡ read s (length w) (length acts) (length o) → Runs s w acts o r w acts o
  runs_raised some e (Err x) p h = rw p (runs_refused some e h)
  runs_raised some e (Ok n) p h = absurd p

  module _ (a : Accepted s (length w) (length acts) (length o)) (n : ℕ) (w' : List ℕ) (acts' : List Float) (o' : List ℕ) (k : Written s o n o')
      (ew : w' ≡ replicate (work_needed (header s)) 0 ++ drop (work_needed (header s)) w)
      (ea : acts' ≡ replicate (header s).variables f64_zero ++ drop (header s).variables acts) where
    shown : take n o' ≡ run (header s) (records_of s)
    shown =
        ap (take n) k.cells ∙ ap (λ (m : ℕ). take m (run (header s) (records_of s) ++ drop (length (run (header s) (records_of s))) o)) k.count
        ∙ take-append_seam (run (header s) (records_of s)) (drop (length (run (header s) (records_of s))) o)

    pub runs_accepted : Runs s w acts o (Ok n) w' acts' o'
    runs_accepted =
        let q = after_accepted s w acts o (omega (arith, a.header_fits.cells)) (accepted_read s (length w) (length acts) (length o) a) in
        record {
          answer = ap model.ran k.count ∙ sym (ap (λ (x : After). x.answer) q);
          work = ew ∙ sym (ap (λ (x : After). x.work) q);
          activities = ea ∙ sym (ap (λ (x : After). x.activities) q);
          out = k.cells ∙ sym (ap (λ (x : After). x.out) q);
          demand = λ cells f.
              let m : n ≡ cells = ap value_of f in
              subst (λ (i : ℕ). Demand3 s (take i o')) m (subst (Demand3 s) (sym shown) (demand_3 s (length w) (length acts) (length o) a));
        }

  -- the answer as a number and a value
  pub gives : (r : Result ℕ Refusal) (w' : List ℕ) (acts' : List Float) (o' : List ℕ) → Runs s w acts o r w' acts' o'
      → (n v : ℕ) → n ≡ number_of (answer_of r) → v ≡ value_of (answer_of r) → Gives s w acts o n v w' acts' o'
  gives r w' acts' o' k n v p q =
      record {
        number = p ∙ ap number_of k.answer;
        value = q ∙ ap value_of k.answer;
        work = k.work;
        activities = k.activities;
        out = k.out;
        demand = shown r k p q;
      }
    where
      shown : (r : Result ℕ Refusal) → Runs s w acts o r w' acts' o' → n ≡ number_of (answer_of r) → v ≡ value_of (answer_of r) → n ≡ 0 → Demand3 s (take v o')
      shown (Ok cells) k p q z = subst (λ (i : ℕ). Demand3 s (take i o')) (sym q) (k.demand cells refl)
      shown (Err e) k p q z = absurd (omega (arith, z, p, refusal_numbered (number e.rule) e.place (sym k.answer)))
