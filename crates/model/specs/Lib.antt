-- The definition of the run of document 01, as functions that compute. Each module stands for a part of core.rs, whose names it keeps with `-` for
-- `_`, or for a part of the document. A reader has to believe Script, Run and Book, and what they name.
--
-- How to read it. `elim e [ | p ↦ a | q ↦ b ]` is a match on e. `x ∷ xs` is a list with x first, `xs ++ ys` two lists in a row. `get_or xs i d` is
-- xs[i], and d past the end; `set xs i a` is xs with a at i. `take n xs` is the beginning, `drop n xs` the rest. `r.f` is the field f of r. `eqb`,
-- `ltb` and `leb` test =, < and ≤. A function that is no plain recursion on a list takes turns: a number that falls with each, enough of which are
-- given, and a comment says why they are enough.
pub mod Lit
pub mod Luby
pub mod Limits
pub mod Script
pub mod State
pub mod Store
pub mod Trail
pub mod Activity
pub mod Intake
pub mod Propagate
pub mod Minimise
pub mod Analyze
pub mod Final
pub mod Decide
pub mod Search
pub mod Run
pub mod Book
pub mod Exec
pub mod Table
pub mod WrongTurns
pub mod Steps
pub mod Requests
