-- A walk through a watch list.
use Rattle.std.specs.Prelude.{ℕ, ◌<◌, length, get_or}
use Rattle.watch.specs.View.{Watches, list_of}
use Rattle.watch.specs.Walk.{Stands}
use Rattle.watch.specs.declared.Cursor.{Cursor}

-- the cursor is in the list of l, or at its end
abbrev pub On : ℕ → Cursor → Watches → Type 0
On l c w = Stands (length w.blockers) l c (list_of w l)

-- it is not at the end
abbrev pub More : ℕ → Cursor → Watches → Type 0
More l c w = c.passed < length (list_of w l)

-- its node
abbrev pub node_at : ℕ → Cursor → Watches → ℕ
node_at l c w = get_or (list_of w l) c.passed 0
