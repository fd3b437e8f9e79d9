-- The limits of document 01's section "The bench program", each named once.
use Rattle.std.specs.Prelude.{ℕ}

-- the bytes of a text
abbrev pub max_bytes : ℕ
max_bytes = 1048576

-- any number
abbrev pub max_number : ℕ
max_number = 4294967295

abbrev pub max_vars : ℕ
max_vars = 128

-- the cells of a script
abbrev pub max_cells : ℕ
max_cells = 16384

-- C and L
abbrev pub clauses : ℕ
clauses = 512

abbrev pub literals : ℕ
literals = 4096

-- the line of the first record: each line from there on is one record
abbrev pub first_record : ℕ
first_record = 5
