-- The clauses as the definition has them, and how two slices of cells hold them.
use Rattle.std.specs.Prelude.{ℕ, ◌+◌, ◌-◌, ◌≤◌, ◌<◌, ◌≡◌, List, [], ◌∷◌, ◌++◌, length, get_or, set, take, drop, map}
use Rattle.std.specs.List.{range_with_len}
use Rattle.model.specs.Limits.{max_clauses, max_literals}
use Rattle.model.specs.Store.{stored_literals}

-- the stored clauses, and the literals pushed for the next one; room for clauses, and for literals; and every cell: of the starts, and of the literals
pub record Clauses : Type 0 where
  pub clauses : List (List ℕ)
  pub pushed : List ℕ
  pub room : ℕ
  pub lit_room : ℕ
  pub start_cells : List ℕ
  pub lit_cells : List ℕ

abbrev pub clause_of : Clauses → ℕ → List ℕ
clause_of s c = get_or s.clauses c []

-- where the next literal goes: behind the literals stored and pushed
abbrev pub next_lit : Clauses → ℕ
next_lit s = stored_literals s.clauses + length s.pushed

-- what two slices show before any clause is stored
abbrev pub found : List ℕ → List ℕ → Clauses
found starts lits = record { clauses = []; pushed = []; room = length starts - 1; lit_room = length lits; start_cells = starts; lit_cells = lits }

-- no clause, in the cells of s: the first one will start at 0
abbrev pub no_clauses : Clauses → Clauses
no_clauses s =
    record { clauses = []; pushed = []; room = s.room; lit_room = s.lit_room; start_cells = set s.start_cells 0 0; lit_cells = s.lit_cells }

-- literal i of clause c is p
abbrev pub lit_set : Clauses → ℕ → ℕ → ℕ → Clauses
lit_set s c i p =
    record {
      clauses = set s.clauses c (set (clause_of s c) i p);
      pushed = s.pushed;
      room = s.room;
      lit_room = s.lit_room;
      start_cells = s.start_cells;
      lit_cells = set s.lit_cells (get_or s.start_cells c 0 + i) p;
    }

abbrev pub lit_pushed : Clauses → ℕ → Clauses
lit_pushed s p =
    record {
      clauses = s.clauses;
      pushed = s.pushed ++ (p ∷ []);
      room = s.room;
      lit_room = s.lit_room;
      start_cells = s.start_cells;
      lit_cells = set s.lit_cells (next_lit s) p;
    }

-- the next clause starts behind the one that is closed
abbrev pub closed : Clauses → Clauses
closed s =
    record {
      clauses = s.clauses ++ (s.pushed ∷ []);
      pushed = [];
      room = s.room;
      lit_room = s.lit_room;
      start_cells = set s.start_cells (length s.clauses + 1) (next_lit s);
      lit_cells = s.lit_cells;
    }

abbrev pub discarded : Clauses → Clauses
discarded s =
    record { clauses = s.clauses; pushed = []; room = s.room; lit_room = s.lit_room; start_cells = s.start_cells; lit_cells = s.lit_cells }

-- ---- several literals

-- the cells from a on become l
abbrev pub written : List ℕ → ℕ → List ℕ → List ℕ
written cells a [] = cells
written cells a (p ∷ l) = set (written cells (a + 1) l) a p

-- the literals pushed become l
abbrev pub put_pushed : Clauses → List ℕ → Clauses
put_pushed s l =
    record {
      clauses = s.clauses;
      pushed = l;
      room = s.room;
      lit_room = s.lit_room;
      start_cells = s.start_cells;
      lit_cells = written s.lit_cells (stored_literals s.clauses) l;
    }

-- ---- the cells

-- a clause goes from its start to the next one's
abbrev pub clause_in : List ℕ → List ℕ → ℕ → List ℕ
clause_in starts lits c = take (get_or starts (c + 1) 0 - get_or starts c 0) (drop (get_or starts c 0) lits)

-- n clauses, with `used` literals, and `pushed` more behind them
unfoldable pub shown : List ℕ → List ℕ → ℕ → ℕ → ℕ → Clauses
shown starts lits n used pushed =
    record {
      clauses = map (clause_in starts lits) (range_with_len 0 n);
      pushed = take pushed (drop used lits);
      room = length starts - 1;
      lit_room = length lits;
      start_cells = starts;
      lit_cells = lits;
    }

-- the counts fit the slices, and the starts rise from 0 to where the next clause starts
pub record Rep (starts lits : List ℕ) (n used pushed : ℕ) : Type 0 where
  pub room : length starts ≤ max_clauses + 1
  pub lit_room : length lits ≤ max_literals
  pub clauses : n < length starts
  pub literals : used + pushed ≤ length lits
  pub first : get_or starts 0 0 ≡ 0
  pub last : get_or starts n 0 ≡ used
  pub rising : (c e : ℕ) → c ≤ e → e ≤ n → get_or starts c 0 ≤ get_or starts e 0

-- what is true of every store: the counts have room, the starts rise from 0 to where the next clause starts, and the literals stand in their cells
pub record Sound (s : Clauses) : Type 0 where
  pub room : s.room ≤ max_clauses
  pub lit_room : s.lit_room ≤ max_literals
  pub start_cells : length s.start_cells ≡ s.room + 1
  pub lit_cells : length s.lit_cells ≡ s.lit_room
  pub clauses : length s.clauses ≤ s.room
  pub literals : next_lit s ≤ s.lit_room
  pub first : get_or s.start_cells 0 0 ≡ 0
  pub last : get_or s.start_cells (length s.clauses) 0 ≡ stored_literals s.clauses
  pub rising : (c e : ℕ) → c ≤ e → e ≤ length s.clauses → get_or s.start_cells c 0 ≤ get_or s.start_cells e 0
  pub parts : (c : ℕ) → c < length s.clauses → clause_of s c ≡ clause_in s.start_cells s.lit_cells c
  pub pushed : s.pushed ≡ take (length s.pushed) (drop (stored_literals s.clauses) s.lit_cells)

-- what a store counts
pub record Counted (s : Clauses) (m l n : ℕ) : Type 0 where
  pub clauses : length s.clauses ≡ m
  pub literals : stored_literals s.clauses ≡ l
  pub pushed : length s.pushed ≡ n
