-- Every small rule book, and what the program prints of it: `output`.
use Rattle.std.specs.Prelude.{ℕ, zero, suc, ◌+◌, ◌*◌, max, Bool, true, false, ◌&&◌, not, List, [], ◌∷◌, ◌++◌, map, length, get_or, replicate, eqb, Some}
use Rattle.model.specs.Lit.{var}
use Rattle.model.specs.State.{f64_zero}
use Rattle.model.specs.Script.{clause_kind, solve_kind}
use Rattle.model.specs.Run.{After, turned_back, ran, after}
use Rattle.text.specs.Bytes.{bytes}
use Rattle.text.specs.Number.{shown}
use Rattle.cells.specs.declared.Verdict.TheVariants.{Undef}
use Rattle.text.specs.Kinds.{verdict_of, cell_of}
use Rattle.text.specs.Answers.{verdict, numbered}
use Rattle.smallbooks.specs.declared.Found.{Found}
use Rattle.smallbooks.specs.Choose.{of_sizes}

-- ---- the sets

-- the numbers from a on, n of them
unfoldable pub upward : ℕ → ℕ → List ℕ
upward a zero = []
upward a (suc n) = a ∷ upward (suc a) n

-- the literals of v variables
unfoldable pub literals : ℕ → List ℕ
literals v = upward 0 (2 * v)

-- no variable twice: the literals are in order, so those of a variable stand side by side
unfoldable pub apart : List ℕ → Bool
apart [] = true
apart (l ∷ []) = true
apart (l ∷ m ∷ ls) = not (eqb (var l) (var m)) && apart (m ∷ ls)

unfoldable pub filter : {A : Type 0} → (A → Bool) → List A → List A
filter p [] = []
filter p (x ∷ xs) = elim (p x) [ true ↦ x ∷ filter p xs | false ↦ filter p xs ]

-- the non-empty clauses without a variable twice, by length, then by literal numbers
unfoldable pub clauses : ℕ → List (List ℕ)
clauses v = filter apart (of_sizes 1 v (literals v))

-- the sets of at most three of them, by size, then by their clauses
unfoldable pub sets : ℕ → List (List (List ℕ))
sets v = of_sizes 0 4 (clauses v)

-- ---- a set's run

-- C, L, mode, phase and unit, and a solve's budget
abbrev pub max_clauses : ℕ
max_clauses = 512

abbrev pub max_literals : ℕ
max_literals = 4096

abbrev pub mode : ℕ
mode = 2

abbrev pub phase : ℕ
phase = 2

abbrev pub unit : ℕ
unit = 100

abbrev pub budget : ℕ
budget = 1000000

unfoldable pub header : ℕ → List ℕ
header v = v ∷ max_clauses ∷ max_literals ∷ mode ∷ phase ∷ unit ∷ []

-- the records of clauses, and of a solve without assumptions
unfoldable pub record_of : List ℕ → List ℕ
record_of c = clause_kind ∷ length c ∷ c

unfoldable pub records_of : List (List ℕ) → List ℕ
records_of [] = []
records_of (c ∷ cs) = record_of c ++ records_of cs

unfoldable pub solve_record : List ℕ
solve_record = solve_kind ∷ 0 ∷ budget ∷ []

unfoldable pub script : ℕ → List (List ℕ) → List ℕ
script v s = header v ++ (records_of s ++ solve_record)

-- what a run says of the solve that stands behind n clauses; a refusal would be no verdict
unfoldable pub found : ℕ → After → Found
found n x = elim x.answer [
  | turned_back _ _ ↦ record { verdict = Some Undef; conflicts = 0 }
  | ran _ ↦ record { verdict = verdict_of (get_or x.out n 0); conflicts = get_or x.out (n + 1) 0 }
]

-- a fresh run: slices of zeros, long enough for three variables and three clauses
unfoldable pub fresh : ℕ → List ℕ → Found
fresh n s = found n (after s (replicate 8352 0) (replicate 3 f64_zero) (replicate 10 0))

unfoldable pub solved : ℕ → List (List ℕ) → Found
solved v s = fresh (length s) (script v s)

-- ---- what is printed

-- a set's two lines
unfoldable pub printed : Found → List ℕ
printed f = verdict (cell_of f.verdict) ++ numbered (bytes "conflicts=") f.conflicts

unfoldable pub all_printed : List Found → List ℕ
all_printed [] = []
all_printed (f ∷ fs) = printed f ++ all_printed fs

unfoldable pub greatest : List ℕ → ℕ
greatest [] = 0
greatest (x ∷ xs) = max x (greatest xs)

-- the number of the first that is m, counted from n on
unfoldable pub first : ℕ → ℕ → List ℕ → ℕ
first m n [] = n
first m n (x ∷ xs) = elim (eqb x m) [ true ↦ n | false ↦ first m (n + 1) xs ]

-- the greatest conflicts, a blank, and the number, from 1, of the first set with that many
unfoldable pub printed_most : List ℕ → List ℕ
printed_most cs = bytes "most=" ++ shown (greatest cs) ++ numbered (bytes " ") (first (greatest cs) 1 cs)

unfoldable pub printed_book : List Found → List ℕ
printed_book fs = all_printed fs ++ printed_most (map (λ f. f.conflicts) fs)

-- the sets of v variables
unfoldable pub book : ℕ → List ℕ
book v = printed_book (map (solved v) (sets v))

unfoldable pub output : List ℕ
output = book 1 ++ book 2 ++ book 3
