-- Vectors as lines of text, and how many of them hold.
use Rattle.std.specs.Prelude.{◌≡◌, ℕ, ◌+◌, ◌%◌, ◌^◌, Bool, true, false, not, None, Some, List, [], ◌∷◌, ◌++◌, length, drop, nat_lt, ◌≤◌}
use Rattle.text.specs.Split.{lines, words, starts}
use Rattle.text.specs.Number.{decimal}
use Rattle.replay.specs.declared.Tally.{Tally}
use Rattle.replay.specs.Vector.{vector_holds}

-- the numbers of words, behind those that were read; none if a word is no number, or there is no room for it
unfoldable pub read_on : ℕ → List ℕ → List (List ℕ) → List ℕ
read_on room xs [] = xs
read_on room xs (w ∷ ws) =
    elim (decimal w) [
      | None ↦ []
      | Some x ↦ elim (nat_lt (length xs) room) [ true ↦ read_on room (xs ++ (x ∷ [])) ws | false ↦ [] ]
    ]

-- the numbers behind the name of a line
unfoldable pub line_numbers : ℕ → List ℕ → List ℕ
line_numbers room line = read_on room [] (drop 1 (words line))

-- how many numbers of a line there is room for, and how long the slices are that scripts run over
pub record Lengths : Type 0 where
  pub cells : ℕ
  pub work : ℕ
  pub activities : ℕ
  pub out : ℕ

-- a line that is a vector that holds
unfoldable pub line_holds : Lengths → List ℕ → Bool
line_holds room line = vector_holds (line_numbers room.cells line) room.work room.activities room.out

-- one script
unfoldable pub one : Bool → Tally
one true = record { passed = 1; failed = 0 }
one false = record { passed = 0; failed = 1 }

abbrev pub added : Tally → Tally → Tally
added a b = record { passed = (a.passed + b.passed) % 2 ^ 64; failed = (a.failed + b.failed) % 2 ^ 64 }

-- ---- groups

-- `group ` and a title begin a group
abbrev pub group_key : List ℕ
group_key = 103 ∷ 114 ∷ 111 ∷ 117 ∷ 112 ∷ 32 ∷ []

-- the lines up to the next group
unfoldable pub scripts : List (List ℕ) → List (List ℕ)
scripts [] = []
scripts (l ∷ ls) = elim (starts group_key l) [ true ↦ [] | false ↦ l ∷ scripts ls ]

-- and those from it on
unfoldable pub next_group : List (List ℕ) → List (List ℕ)
next_group [] = []
next_group (l ∷ ls) = elim (starts group_key l) [ true ↦ l ∷ ls | false ↦ next_group ls ]

-- the lines that begin no group
unfoldable pub others : List (List ℕ) → List (List ℕ)
others [] = []
others (l ∷ ls) = elim (starts group_key l) [ true ↦ others ls | false ↦ l ∷ others ls ]

-- the scripts of all groups: the first line is a title, whatever it is
unfoldable pub all_scripts : List (List ℕ) → List (List ℕ)
all_scripts [] = []
all_scripts (l ∷ ls) = others ls

-- how many lines pass a test
unfoldable pub count : (List ℕ → Bool) → List (List ℕ) → ℕ
count test [] = 0
count test (l ∷ ls) = elim (test l) [ true ↦ 1 + count test ls | false ↦ count test ls ]

-- how many hold, and how many do not
abbrev pub tallied : (List ℕ → Bool) → List (List ℕ) → Tally
tallied test ls = record { passed = count test ls; failed = count (λ l. not (test l)) ls }

-- a group whose scripts are counted, and the text from the next one on
pub record Grouped (test : List ℕ → Bool) (input left : List ℕ) (t : Tally) : Type 0 where
  pub tally : t ≡ tallied test (scripts (lines input))
  pub rest : lines left ≡ next_group (lines input)
  pub shorter : length left ≤ length input
