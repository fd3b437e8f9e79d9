-- A text cut at a byte: into lines at newlines, a line into words at blanks.
use Rattle.std.specs.Prelude.{ℕ, Bool, true, false, List, [], ◌∷◌, eqb}
use Rattle.text.specs.Bytes.{newline, blank}

-- a byte in front of the first piece
unfoldable pub push : ℕ → List (List ℕ) → List (List ℕ)
push b [] = (b ∷ []) ∷ []
push b (p ∷ ps) = (b ∷ p) ∷ ps

-- the pieces between the bytes s; `last` are the pieces of a text that has ended
unfoldable pub pieces : ℕ → List (List ℕ) → List ℕ → List (List ℕ)
pieces s last [] = last
pieces s last (b ∷ bs) = elim (eqb b s) [ true ↦ [] ∷ pieces s last bs | false ↦ push b (pieces s last bs) ]

-- a newline ends a line: an end right after a newline begins no line, and a last line may lack its newline
abbrev pub lines : List ℕ → List (List ℕ)
lines = pieces newline []

-- a blank parts two words, so there is one word more than there are blanks
abbrev pub words : List ℕ → List (List ℕ)
words = pieces blank ([] ∷ [])

-- the bytes before the first s, all if there is none
unfoldable pub before : ℕ → List ℕ → List ℕ
before s [] = []
before s (b ∷ bs) = elim (eqb b s) [ true ↦ [] | false ↦ b ∷ before s bs ]

-- whether a line starts with a key
unfoldable pub starts : List ℕ → List ℕ → Bool
starts [] line = true
starts (k ∷ ks) [] = false
starts (k ∷ ks) (b ∷ bs) = elim (eqb k b) [ true ↦ starts ks bs | false ↦ false ]
