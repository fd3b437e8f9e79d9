-- A case is a script, as text, with what it comes to; `failing` runs the definition over a list of cases.
use Rattle.std.specs.Prelude.{ℕ, ◌+◌, ◌*◌, ◌-◌, Bool, true, false, List, [], ◌∷◌, eqb, get_or}
use Prim.Native.String.{String}
use Prim.Native.Char.{code}
use Rattle.model.specs.Exec.{Outcome, refuses, gives, out_of, out}

-- names first; then the script's cells and its out cells; or the lengths of work, activities and out, the script's cells, and the refusal's number and place, or the out cells
pub data Case : Type 0 where
  runs : String → String → String → Case
  refused : String → String → String → String → Case
  passes : String → String → String → String → Case

-- the numbers of a text, with a blank between two; n is the number read so far
unfoldable numbers : ℕ → String → List ℕ
numbers n String.[] = n ∷ []
numbers n (String.◌∷◌ c s) = elim (eqb (code c) 32) [ true ↦ n ∷ numbers 0 s | false ↦ numbers (10 * n + (code c - 48)) s ]

unfoldable cells : String → List ℕ
unfolding numbers
cells String.[] = []
cells (String.◌∷◌ c s) = numbers 0 (String.◌∷◌ c s)

unfoldable same : List ℕ → List ℕ → Bool
same [] [] = true
same [] (y ∷ ys) = false
same (x ∷ xs) [] = false
same (x ∷ xs) (y ∷ ys) = elim (eqb x y) [ true ↦ same xs ys | false ↦ false ]

unfoldable outcome : String → String → Outcome
unfolding cells out_of
outcome lengths script = out_of (cells script) (get_or (cells lengths) 0 0) (get_or (cells lengths) 1 0) (get_or (cells lengths) 2 0)

unfoldable holds : Case → Bool
unfolding cells same outcome out
holds (runs name script wanted) = same (out (cells script)) (cells wanted)
holds (refused name lengths script wanted) = elim (outcome lengths script) [ refuses number place ↦ same (number ∷ place ∷ []) (cells wanted) | gives _ ↦ false ]
holds (passes name lengths script wanted) = elim (outcome lengths script) [ refuses number place ↦ false | gives out ↦ same out (cells wanted) ]

abbrev name_of : Case → String
name_of (runs name _ _) = name
name_of (refused name _ _ _) = name
name_of (passes name _ _ _) = name

-- the names of the cases that do not hold
unfoldable pub failing : List Case → List String
unfolding holds
failing [] = []
failing (c ∷ cs) = elim (holds c) [ true ↦ failing cs | false ↦ name_of c ∷ failing cs ]
