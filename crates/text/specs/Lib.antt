-- The text of `loadsat` (document 01, "The bench program"), as functions that compute: what a text is read as, and what is printed. A reader has to
-- believe Limits, Bytes, Split, Number, Format and Answers, and of the iterators Pieces; Examples tries them.
--
-- How to read it. A byte is a number; `bytes ".."` is the text in quotes as a list of bytes. `elim e [ | p ↦ a | q ↦ b ]` is a match on e. `x ∷ xs` is
-- a list with x first, `xs ++ ys` two lists in a row. `get_or xs i d` is xs[i], and d past the end. `take n xs` is the beginning, `drop n xs` the
-- rest. `eqb`, `ltb` and `leb` test =, < and ≤.
pub mod Limits
pub mod Bytes
pub mod Split
pub mod Number
pub mod Kinds
pub mod Format
pub mod Answers
pub mod SplitLaws
pub mod Pieces
pub mod NumberLaws
pub mod FormatLaws
pub mod PutLaws
pub mod ReadLaws
pub mod WriteLaws
pub mod Prints
pub mod PrintLaws
pub mod PrintBound
pub mod Computes
pub mod Examples
