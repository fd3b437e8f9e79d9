-- From the sets' lines to a book's text, and to the whole of `output`.
use Rattle.std.specs.Prelude.{◌≡◌, List, ◌++◌, ℕ, ◌+◌, ◌*◌, ◌≤◌, length, drop}
use Rattle.text.specs.Bytes.{bytes}
use Rattle.text.specs.Number.{shown}
use Rattle.text.specs.Answers.{numbered}
use Rattle.text.specs.WriteLaws.{Written}
use Rattle.text.specs.declared.printer.Printer.{Printer}
use Rattle.text.specs.Prints.{Prints as PrintsMore}
use Rattle.smallbooks.specs.declared.Score.{Score}
use Rattle.smallbooks.specs.Books.{sets, book, output}
use Rattle.smallbooks.specs.Tell.{longest}

-- ---- a book

-- the line of a score
unfoldable pub most_line : Score → List ℕ
most_line s = bytes "most=" ++ shown s.most ++ numbered (bytes " ") s.first

pub record Booked (v : ℕ) (old new : Printer) : Type 0 where
  pub lines : PrintsMore old new (book v)
  pub short : length (book v) ≤ longest * length (sets v) + 27

-- ---- the whole

-- room enough for the text
abbrev pub max_text : ℕ
max_text = 131072

-- The text stands first in the slice, as far as there is room, and r is where it ends; in a slice of max_text bytes it stands whole, and
-- behind it the slice is as it was.
pub record Prints (before after : List ℕ) (r : ℕ) : Type 0 where
  pub written : Written before 0 output after r
  pub whole : max_text ≤ length before → (after ≡ output ++ drop (length output) before) × (r ≡ length output)
