-- What `run` promises of a script and the slices lent, and `engine_run` of the same.
use Rattle.std.specs.Prelude.{ℕ, ◌≡◌, List, take, Float, Result}
use Rattle.model.specs.Run as model
use Rattle.model.specs.Run.{after}
use Rattle.model.specs.Book.{Demand3}
use Rattle.refusal.specs.declared.Refusal.{Refusal}
use Rattle.counter.specs.Answers as counter

-- the definition's answer: document 01's numbers and values
abbrev pub answer_of : Result ℕ Refusal → model.Answer
answer_of r = counter.answer_of r

-- how the answer is given beside a number: 0 and the cells written, or the refusal's number and the place
abbrev pub number_of : model.Answer → ℕ
number_of (model.turned_back number place) = number
number_of (model.ran cells) = 0

abbrev pub value_of : model.Answer → ℕ
value_of (model.turned_back number place) = place
value_of (model.ran cells) = cells

-- The answer is r; work, activities and out were w, acts and o, and are w', acts' and o' afterwards. Every cell of them, of a run and of a refusal, is as
-- document 01 defines; and the cells that a run writes meet demand 3.
pub record Runs (script w : List ℕ) (acts : List Float) (o : List ℕ) (r : Result ℕ Refusal) (w' : List ℕ) (acts' : List Float) (o' : List ℕ) : Type 0 where
  pub answer : answer_of r ≡ (after script w acts o).answer
  pub work : w' ≡ (after script w acts o).work
  pub activities : acts' ≡ (after script w acts o).activities
  pub out : o' ≡ (after script w acts o).out
  pub demand : (cells : ℕ) → answer_of r ≡ model.ran cells → Demand3 script (take cells o')

-- the same of an answer given as a number n and a value v
pub record Gives (script w : List ℕ) (acts : List Float) (o : List ℕ) (n v : ℕ) (w' : List ℕ) (acts' : List Float) (o' : List ℕ) : Type 0 where
  pub number : n ≡ number_of (after script w acts o).answer
  pub value : v ≡ value_of (after script w acts o).answer
  pub work : w' ≡ (after script w acts o).work
  pub activities : acts' ≡ (after script w acts o).activities
  pub out : o' ≡ (after script w acts o).out
  pub demand : n ≡ 0 → Demand3 script (take v o')
