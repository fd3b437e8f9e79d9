-- The limits of document 01, each named once.
use Rattle.std.specs.Prelude.{ℕ}

-- the header's cells, in the script's first places
abbrev pub header_cells : ℕ
header_cells = 6

-- V is 1 to this
abbrev pub max_variables : ℕ
max_variables = 4096

-- C and L
abbrev pub max_clauses : ℕ
max_clauses = 65535

abbrev pub max_literals : ℕ
max_literals = 1048576

-- a clause of a script has at most this many literals; a learnt clause may have more
abbrev pub longest_clause : ℕ
longest_clause = 211

-- `ccmin_mode` and `phase_saving` are 0 to these, `restart_first` is 1 to this
abbrev pub max_mode : ℕ
max_mode = 2

abbrev pub max_phase : ℕ
max_phase = 2

abbrev pub max_unit : ℕ
max_unit = 1000

-- a solve's budget of conflicts
abbrev pub max_budget : ℕ
max_budget = 1000000

-- the work cells for each variable, for each stored clause, and besides these and one for each stored literal
abbrev pub work_per_variable : ℕ
work_per_variable = 32

abbrev pub work_per_clause : ℕ
work_per_clause = 8

abbrev pub work_besides : ℕ
work_besides = 64

-- the out cells of a solve are at most V and these: three before the body, and a final clause of V + 1 literals
abbrev pub solve_besides : ℕ
solve_besides = 4

-- the place given with refusal 12 is at most this
abbrev pub max_place : ℕ
max_place = 4294967295
