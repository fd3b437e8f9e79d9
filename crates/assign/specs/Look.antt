-- A look at a watched clause: to put its false literal second, to watch another one, and to set its first one, keeps the assignment.
use Rattle.std.specs.Prelude.{List, ℕ, get_or, set}

-- the literal at k, and the second one, in each other's place
abbrev pub moved : ℕ → ℕ → List ℕ → List ℕ
moved f k c = set (set c 1 (get_or c k 0)) k f
