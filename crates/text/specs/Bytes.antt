-- Bytes, and the words that stand in a text.
use Rattle.std.specs.Prelude.{ℕ, List}
use Prim.Native.String.{String}
use Prim.Native.Char.{code}

-- a text of ASCII characters
abbrev pub bytes : String → List ℕ
bytes String.[] = List.[]
bytes (String.◌∷◌ c s) = List.◌∷◌ (code c) (bytes s)

abbrev pub newline : ℕ
newline = 10

abbrev pub blank : ℕ
blank = 32

abbrev pub minus : ℕ
minus = 45

-- the digits 0 to 9
abbrev pub zero_digit : ℕ
zero_digit = 48

abbrev pub nine_digit : ℕ
nine_digit = 57
