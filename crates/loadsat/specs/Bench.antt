-- What `loadsat` writes for an input: `output`.
use Rattle.std.specs.Prelude.{ℕ, ◌≡◌, List, ◌++◌, length, drop, replicate, Float}
use Rattle.model.specs.State.{f64_zero}
use Rattle.model.specs.Run.{After, turned_back, ran, after}
use Rattle.refusal.specs.Number.{number}
use Rattle.text.specs.Limits.{max_cells}
use Rattle.text.specs.Format.{Reading, refused, script, read_text, record_lines}
use Rattle.text.specs.Answers.{printed_refusal, printed}

-- a script's answers, or why the run refuses it; record i stands on line 5 + i, and no script has more records than cells
unfoldable pub answered : List ℕ → After → List ℕ
answered cells x = elim x.answer [
  | turned_back number place ↦ printed_refusal number place
  | ran _ ↦ printed cells (record_lines max_cells) x.out
]

-- a text's answers, or why it is no script, over slices that hold these cells
unfoldable pub shown : List ℕ → List Float → List ℕ → Reading → List ℕ
shown work activities out (refused rule place _) = printed_refusal (number rule) place
shown work activities out (script cells _) = answered cells (after cells work activities out)

-- with room for 128 variables, 512 clauses and 4,096 literals, and for 16,384 cells of answers
unfoldable pub output : List ℕ → List ℕ
output input = shown (replicate 12352 0) (replicate 128 f64_zero) (replicate max_cells 0) (read_text max_cells input)

-- the bytes xs stand first in a slice, all of them, and r is how many they are; behind them it is as it was
pub record Printed (before xs after : List ℕ) (r : ℕ) : Type 0 where
  pub slice : after ≡ xs ++ drop (length xs) before
  pub end : r ≡ length xs
