-- Literals and values, as in clause.rs: variable v is the literal 2v, its negation 2v + 1.
use Rattle.std.specs.Prelude.{ℕ, ◌+◌, ◌-◌, ◌*◌, ◌/◌, ◌%◌, ◌^◌, Bool, true, false, List, get_or, eqb}

abbrev pub var : ℕ → ℕ
var l = l / 2

-- 0 where the literal is positive, 1 where it is negated
abbrev pub sign : ℕ → ℕ
sign l = l % 2

-- the Rust's `!lit`
abbrev pub neg : ℕ → ℕ
neg l = l + 1 - 2 * sign l

-- Lit::UNDEF, which no literal of a script reaches
abbrev pub undef_lit : ℕ
undef_lit = 4294967294

-- CRef::UNDEF, the reason of a decision and of a unit
abbrev pub no_reason : ℕ
no_reason = 4294967295

-- lbool
abbrev pub l_true : ℕ
l_true = 0

abbrev pub l_false : ℕ
l_false = 1

abbrev pub l_undef : ℕ
l_undef = 2

-- a literal's value, from its variable's
abbrev pub value_for : ℕ → ℕ → ℕ
value_for x l = elim (eqb x l_undef) [ true ↦ l_undef | false ↦ (x + sign l) % 2 ]

-- a literal's value, from the values of the variables
abbrev pub value_lit : List ℕ → ℕ → ℕ
value_lit values l = value_for (get_or values (var l) 0) l

abbrev pub is_true : List ℕ → ℕ → Bool
is_true values l = eqb (value_lit values l) l_true

abbrev pub is_false : List ℕ → ℕ → Bool
is_false values l = eqb (value_lit values l) l_false

-- a level's bit in a mask of 32
abbrev pub abstract_level : ℕ → ℕ
abstract_level level = 2 ^ (level % 32)
