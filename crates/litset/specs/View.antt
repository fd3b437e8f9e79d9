-- The set: its members in order, and every cell; and how a slice and a list hold it.
use Rattle.std.specs.Prelude.{ℕ, ◌≤◌, ◌<◌, ◌≡◌, Bool, true, false, List, [], ◌∷◌, length, get_or, set, take, replicate}
use Rattle.std.proofs.lemmas.List.Edits.{sets}
use Rattle.model.specs.Final.{mem, insert}
use Rattle.scratch.specs.Row.{Row}

-- the members in order of insertion; the flag of each literal; the cells for members, those past the last member too
pub record Members : Type 0 where
  pub items : List ℕ
  pub flag_cells : List ℕ
  pub item_cells : List ℕ

-- the cells with x at place i, where l is new; as they are, where l is a member
unfoldable pub new_cell : List ℕ → ℕ → List ℕ → ℕ → ℕ → List ℕ
new_cell items l cells i x = elim (mem l items) [ true ↦ cells | false ↦ set cells i x ]

-- the set with l: a new member has its flag set, and its cell behind the others
abbrev pub inserted : Members → ℕ → Members
inserted s l =
    record {
      items = insert s.items l;
      flag_cells = new_cell s.items l s.flag_cells l 1;
      item_cells = new_cell s.items l s.item_cells (length s.items) l;
    }

-- the flags with those of the literals set
unfoldable pub flagged : List ℕ → List ℕ → List ℕ
flagged flags [] = flags
flagged flags (l ∷ ls) = flagged (set flags l 1) ls

-- the set with the members c: their flags are set, and they stand from the first cell on
abbrev pub with_items : Members → List ℕ → Members
with_items s c = record { items = c; flag_cells = flagged s.flag_cells c; item_cells = sets s.item_cells 0 c }

-- no member: each of the n flags is 0, and the cells for members are as they were
abbrev pub emptied : ℕ → Members → Members
emptied n s = record { items = []; flag_cells = replicate n 0; item_cells = s.item_cells }

-- l is one of the literals, and a new member has room
pub record Insertable (s : Members) (l : ℕ) : Type 0 where
  pub low : l < length s.flag_cells
  pub room : mem l s.items ≡ false → length s.items < length s.item_cells

abbrev pub flag : Bool → ℕ
flag true = 1
flag false = 0

-- What is true of every set. Past the flags `get_or` reads 0, so `marks` also says that each member has a flag.
pub record Sound (s : Members) : Type 0 where
  pub fits : length s.items ≤ length s.item_cells
  pub first : s.items ≡ take (length s.items) s.item_cells
  pub marks : (l : ℕ) → get_or s.flag_cells l 0 ≡ flag (mem l s.items)

-- ---- the fields

-- the flags, and the list of the members
abbrev pub members : List ℕ → Row → Members
members flags r = record { items = r.items; flag_cells = flags; item_cells = r.cells }

-- the flags of the members are set, and no other
pub record Rep (flags items : List ℕ) : Type 0 where
  pub marks : (l : ℕ) → get_or flags l 0 ≡ flag (mem l items)
