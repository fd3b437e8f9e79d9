-- Clauses written one records, one after the other: what a slice holds afterwards, and what is left to write.
use Rattle.std.specs.Prelude.{ℕ, ◌+◌, ◌≤◌, ◌≡◌}
use mathlib.Core.List.{List}
use lib.ListN.{length}
use Rattle.std.proofs.lemmas.List.Edits.{sets}
use Rattle.counter.specs.Counter.{cells}

-- the cells of clauses stand in a slice from `at` on, and `end` is behind them; the rest is one it was
pub record Wrote (out : List ℕ) (at : ℕ) (cs : List (List ℕ)) (out' : List ℕ) (end : ℕ) : Type 0 where
  pub stored : out' ≡ sets out at (cells cs)
  pub behind : end ≡ at + length (cells cs)

-- they fit a slice of n cells
abbrev pub Fits : ℕ → List (List ℕ) → ℕ → Type 0
Fits at cs n = at + length (cells cs) ≤ n

-- ---- laws

-- what is left to write of the clauses `whole`, which were to go to `out₀` from `at₀` on
pub record Left (out₀ : List ℕ) (at₀ : ℕ) (whole : List (List ℕ)) (out : List ℕ) (at : ℕ) (left : List (List ℕ)) : Type 0 where
  pub fits : Fits at left (length out)
  pub same_length : length out ≡ length out₀
  pub rest : (out' : List ℕ) (end : ℕ) → Wrote out at left out' end → Wrote out₀ at₀ whole out' end
