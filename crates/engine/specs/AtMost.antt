-- What `engine_at_most` promises: the answer as a number and a value, every cell of the slice, and what the clauses say.
use Rattle.std.specs.Prelude.{ℕ, ◌≡◌, List, Result, Ok, Err}
use Rattle.std.proofs.Common.{arith, refl, sym, ap, ◌∙◌}
use Rattle.refusal.specs.declared.Refusal.{Refusal}
use Rattle.refusal.specs.Number.{number}
use Rattle.counter.specs.Counter.{at_most, after}
use Rattle.counter.specs.Theorem.{Exactly}
use Rattle.counter.specs.Reads.{ReadsBack}
use Rattle.counter.specs.Answers.{Writes}
use Rattle.counter.proofs.Answers.{refusal_numbered}
use Rattle.engine.specs.Runs.{answer_of, number_of, value_of}

-- A number n and a value x; the slice was out and is out' afterwards. Where n is 0, values of the literals extend to a model of the clauses written if and only
-- if at most k are true, and the cells read back as these clauses.
pub record GivesAtMost (v : ℕ) (ls : List ℕ) (k first : ℕ) (out : List ℕ) (n x : ℕ) (out' : List ℕ) : Type 0 where
  pub number : n ≡ number_of (after v ls k first out).answer
  pub value : x ≡ value_of (after v ls k first out).answer
  pub cells : out' ≡ (after v ls k first out).out
  pub says : n ≡ 0 → Exactly v ls k first
  pub reads : n ≡ 0 → ReadsBack v (at_most k first ls)

module _ (v : ℕ) (ls : List ℕ) (k first : ℕ) (out out' : List ℕ) where
  pub at_most_gives : (r : Result ℕ Refusal) → Writes v ls k first out r out' → (n x : ℕ) → n ≡ number_of (answer_of r) → x ≡ value_of (answer_of r)
      → GivesAtMost v ls k first out n x out'
  at_most_gives r w n x p q =
      record {
        number = p ∙ ap number_of w.answer;
        value = q ∙ ap value_of w.answer;
        cells = w.cells;
        says = said r w p;
        reads = read r w p;
      }
    where
      said : (r : Result ℕ Refusal) → Writes v ls k first out r out' → n ≡ number_of (answer_of r) → n ≡ 0 → Exactly v ls k first
      said (Ok m) w p z = w.says m refl
      said (Err e) w p z = absurd (omega (arith, z, p, refusal_numbered v ls k first out (number e.rule) e.place (sym w.answer)))

      read : (r : Result ℕ Refusal) → Writes v ls k first out r out' → n ≡ number_of (answer_of r) → n ≡ 0 → ReadsBack v (at_most k first ls)
      read (Ok m) w p z = w.reads m refl
      read (Err e) w p z = absurd (omega (arith, z, p, refusal_numbered v ls k first out (number e.rule) e.place (sym w.answer)))
