-- What a call promises: its answer and the whole of the slice, as the definition has them.
use Rattle.std.specs.Prelude.{ℕ, ◌≤◌, ◌<◌, ◌≡◌, true, false, List, [], ◌∷◌, ◌++◌, length, drop, Result, Ok, Err, IsErrAnd}
use native.Mathlib.Omega.{arith}
use Rattle.std.proofs.Math.Path.{refl}
use Rattle.std.proofs.Common.{ap, sym, ◌∙◌}
use Rattle.model.specs.Script.{Row, row, refused, accepted, judge, header}
use Rattle.model.specs.Run as model
use Rattle.model.specs.Run.{turned_back, ran}
use Rattle.refusal.specs.declared.Refusal.{Refusal}
use Rattle.refusal.specs.Number.{number}
use Rattle.script.specs.Judging.{Judged, Hold, accepted_hold}
use Rattle.counter.specs.Counter.{at_most, counter, negations, cells, at_most_rows, first_failing, After, after}
use Rattle.counter.specs.Wrote.{Wrote}
use Rattle.counter.proofs.Wrote.{wrote_front}
use Rattle.counter.proofs.Theorem.{exactly}
use Rattle.counter.proofs.ReadsLaws.{reads_back}
use Rattle.counter.specs.Ranges.{Fit}
use Rattle.counter.proofs.Ranges.{fit_of, room_of, at_most_cases, helpers_in}
use Rattle.counter.specs.Answers.{Writes, Writable}

-- ---- a call that may write

pub at_most_none : (k first : ℕ) (ls : List ℕ) → k ≡ 0 → at_most k first ls ≡ negations ls
unfolding negations
at_most_none k first ls e =
    at_most_cases (λ (cs : List (List ℕ)). cs ≡ negations ls) k first ls (λ z. refl) (λ s l. absurd (omega arith)) (λ l. empty ls (omega arith))
  where
    empty : (ls : List ℕ) → length ls ≤ 0 → [] ≡ negations ls
    empty [] h = refl
    empty (x ∷ ls) h = absurd (omega arith)

pub at_most_some : (k first : ℕ) (ls : List ℕ) → 1 ≤ k → k < length ls → at_most k first ls ≡ counter k first ls
at_most_some k first ls s l =
    at_most_cases (λ (cs : List (List ℕ)). cs ≡ counter k first ls) k first ls (λ z. absurd (omega arith)) (λ s l. refl) (λ m. absurd (omega arith))

pub at_most-all : (k first : ℕ) (ls : List ℕ) → 1 ≤ k → length ls ≤ k → at_most k first ls ≡ []
at_most-all k first ls s l =
    at_most_cases (λ (cs : List (List ℕ)). cs ≡ []) k first ls (λ z. absurd (omega arith)) (λ s m. absurd (omega arith)) (λ m. refl)

-- ---- from the judgement to the answer

refused_first : (rows : List Row) (number place : ℕ) (a : model.Answer) → judge rows (accepted (header []) []) ≡ refused number place → first_failing rows a ≡ turned_back number place
unfolding judge first_failing
refused_first [] number place a e = let z : ◌≡◌ {A = ℕ} 0 1 = cc in absurd (omega arith)
refused_first (row n true p ∷ rows) number place a e = refused_first rows number place a e
refused_first (row n false p ∷ rows) number place a e = cc

hold_first : (rows : List Row) (a : model.Answer) → Hold rows → first_failing rows a ≡ a
unfolding first_failing
hold_first [] a h = refl
hold_first (row n b p ∷ rows) a h = rw (h.0, first_failing) (hold_first rows a h.1)

-- every row has a number
abbrev Numbered : List Row → Type 0
Numbered [] = Unit {0}
Numbered (row number b place ∷ rows) = (1 ≤ number) × Numbered rows

numbered : (rows : List Row) → Numbered rows → (n number place : ℕ) → first_failing rows (ran n) ≡ turned_back number place → 1 ≤ number
unfolding first_failing
numbered [] h n number place e = let z : ◌≡◌ {A = ℕ} 0 1 = cc in absurd (omega arith)
numbered (row m true p ∷ rows) h n number place e = numbered rows h.1 n number place e
numbered (row m false p ∷ rows) h n number place e = let q : m ≡ number = cc in omega (arith, h.0, q)

module _ (v : ℕ) (ls : List ℕ) (k first : ℕ) (out : List ℕ) where
  abbrev pub rows : List Row
  rows = at_most_rows v ls k first (length out)

  abbrev written : List ℕ
  written = cells (at_most k first ls)

  after_refused : (number place : ℕ) → first_failing rows (ran (length written)) ≡ turned_back number place → after v ls k first out ≡ record { answer = turned_back number place; out = out }
  unfolding after
  after_refused number place e = rw (e, after)

  after_written : first_failing rows (ran (length written)) ≡ ran (length written)
      → after v ls k first out ≡ record { answer = ran (length written); out = written ++ drop (length written) out }
  unfolding after
  after_written e = rw (e, after)

  pub writes_refused : {A : Type 0} (e : Refusal) → Judged {A = A} (Err e) rows → Writes v ls k first out (Err e) out
  writes_refused e h =
      let q = after_refused (number e.rule) e.place (refused_first rows (number e.rule) e.place (ran (length written)) (sym (h.same (accepted (header []) [])))) in
      record {
        answer = sym (ap (λ (x : After). x.answer) q);
        cells = sym (ap (λ (x : After). x.out) q);
        says = λ n f. absurd (refuses (number e.rule) e.place n f);
        reads = λ n f. absurd (refuses (number e.rule) e.place n f);
      }
    where
      refuses : (number place n : ℕ) → ◌≡◌ {A = model.Answer} (turned_back number place) (ran n) → ⊥
      refuses number place n f = let z : ◌≡◌ {A = ℕ} 0 1 = cc in omega (arith, z)

  -- the refusal that a `?` hands on
  pub writes_raised : {A : Type 0} {e : Refusal} (r : Result ℕ Refusal) → IsErrAnd r (λ x. x ≡ e) → Judged {A = A} (Err e) rows → Writes v ls k first out r out
  writes_raised (Err x) p h = rw p (writes_refused _ h)
  writes_raised (Ok n) p h = absurd p

  module _ {A : Type 0} {t : A} (h : Judged (Ok t) rows) where
    all_hold : Hold rows
    all_hold = accepted_hold rows h

    pub accepted_fit : Fit v ls k first
    accepted_fit = fit_of v ls k first (length out) all_hold

    pub accepted_writable : Writable ls k first (length out)
    accepted_writable =
        record {
          helpers = λ s l. omega (arith, helpers_in v ls k first accepted_fit s l, accepted_fit.variables);
          fits = omega (arith, room_of v ls k first (length out) all_hold);
        }

    pub writes_written : (n : ℕ) (out' : List ℕ) → Wrote out 0 (at_most k first ls) out' n → Writes v ls k first out (Ok n) out'
    writes_written n out' w =
        let f = wrote_front w (room_of v ls k first (length out) all_hold) in
        let q = after_written (hold_first rows (ran (length written)) all_hold) in
        record {
          answer = ap ran f.0 ∙ sym (ap (λ (x : After). x.answer) q);
          cells = f.1 ∙ sym (ap (λ (x : After). x.out) q);
          says = λ m g. exactly v ls k first accepted_fit;
          reads = λ m g. reads_back v ls k first accepted_fit;
        }

  -- ---- a refusal's number is not 0

  answer_is : (after v ls k first out).answer ≡ first_failing rows (ran (length written))
  unfolding after
  answer_is = go (first_failing rows (ran (length written))) refl
    where
      go : (x : model.Answer) → first_failing rows (ran (length written)) ≡ x → (after v ls k first out).answer ≡ first_failing rows (ran (length written))
      go (turned_back number place) e = rw (e, after)
      go (ran n) e = rw (e, after)

  pub refusal_numbered : (number place : ℕ) → (after v ls k first out).answer ≡ turned_back number place → 1 ≤ number
  unfolding at_most_rows
  refusal_numbered number place e =
      numbered rows (omega arith, (omega arith, (omega arith, (omega arith, (omega arith, (omega arith, (omega arith, tt))))))) (length written) number place (sym answer_is ∙ e)
