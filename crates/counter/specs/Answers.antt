-- What a call promises: its answer and the whole of the slice, as the definition has them.
use Rattle.std.specs.Prelude.{ℕ, ◌+◌, ◌-◌, ◌*◌, ◌≤◌, ◌<◌, ◌≡◌, List, length, Result, Ok, Err}
use Rattle.model.specs.Limits as Limits
use Rattle.model.specs.Run as model
use Rattle.model.specs.Run.{turned_back, ran}
use Rattle.refusal.specs.declared.Refusal.{Refusal}
use Rattle.refusal.specs.Number.{number}
use Rattle.counter.specs.Counter.{at_most, after}
use Rattle.counter.specs.Wrote.{Fits}
use Rattle.counter.specs.Theorem.{Exactly}
use Rattle.counter.specs.Reads.{ReadsBack}

abbrev pub answer_of : Result ℕ Refusal → model.Answer
answer_of (Err e) = turned_back (number e.rule) e.place
answer_of (Ok n) = ran n

-- ---- a call that may write

pub record Writable (ls : List ℕ) (k first room : ℕ) : Type 0 where
  pub helpers : 1 ≤ k → k < length ls → first + (length ls - 1) * k ≤ Limits.max_variables
  pub fits : Fits 0 (at_most k first ls) room

-- ---- from the judgement to the answer

module _ (v : ℕ) (ls : List ℕ) (k first : ℕ) (out : List ℕ) where
  pub record Writes (r : Result ℕ Refusal) (out' : List ℕ) : Type 0 where
    pub answer : answer_of r ≡ (after v ls k first out).answer
    pub cells : out' ≡ (after v ls k first out).out
    -- what is written says that at most k of the literals are true, and reads back as the clauses that say so
    pub says : (n : ℕ) → answer_of r ≡ ran n → Exactly v ls k first
    pub reads : (n : ℕ) → answer_of r ≡ ran n → ReadsBack v (at_most k first ls)
