-- The literals of a reason from its second one on: the part of the store that a marking function is passed.
use Rattle.std.specs.Prelude.{ℕ, ◌+◌, ◌-◌, ◌≤◌, ◌<◌, ◌≡◌, List, [], length, get_or, take, drop}
use Rattle.std.proofs.Common.{arith, length-drop, get_or-drop, take_all}
use Rattle.store.specs.View.{Clauses, clause_of}
use Rattle.trail.specs.View.{LitsOf}

abbrev pub others : Clauses → ℕ → List ℕ
others x c = drop 1 (clause_of x c)

-- c is a clause with a first literal, and those behind it are of the n variables
pub record Reason (n : ℕ) (x : Clauses) (c : ℕ) : Type 0 where
  pub stored : c < length x.clauses
  pub some : 1 ≤ length (clause_of x c)
  pub lits : LitsOf n (others x c)

-- every stored clause has a literal
abbrev pub Filled : List (List ℕ) → Type 0
Filled cs = (c : ℕ) → c < length cs → 1 ≤ length (get_or cs c [])

-- the part of a list from a place to its end
pub part-all : (l : List ℕ) (from : ℕ) → take (length l - from) (drop from l) ≡ drop from l
part-all l from = take_all (length l - from) (drop from l) (rw length-drop (omega arith))

pub lits_from : (n : ℕ) (l : List ℕ) (from : ℕ) → LitsOf n l → LitsOf n (drop from l)
lits_from n l from g i h = rw (get_or-drop from l i 0) (g (from + i) (omega (arith, length-drop from l)))
