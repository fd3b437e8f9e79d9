-- Worked examples: document 01's, each refusal, and each finer point of docs/DECISIONS.md, "Text of `loadsat`".
use Rattle.std.specs.Prelude.{ℕ, ◌<◌, ◌≡◌, refl, List, [], ◌∷◌, ◌++◌, length}
use Prim.Native.String.{String}
use Rattle.std.proofs.lemmas.Bool.{lt-leb}
use Rattle.refusal.specs.declared.Rule.TheVariants.{BadKey, BadNumber, LongText}
use Rattle.text.specs.Limits.{max_cells, max_bytes}
use Rattle.text.specs.Bytes.{bytes}
use Rattle.text.specs.Format.{Reading, refused, script, read_text}
use Rattle.text.specs.Answers.{printed_refusal}
use Rattle.text.specs.Computes.{read, print}

read· : String → Reading
unfolding read
read· text = read (bytes text)

-- ---- document 01's example

abbrev example : List ℕ
example = 2 ∷ 512 ∷ 4096 ∷ 2 ∷ 2 ∷ 100 ∷ 1 ∷ 2 ∷ 0 ∷ 2 ∷ 1 ∷ 2 ∷ 1 ∷ 2 ∷ 2 ∷ 0 ∷ 1000 ∷ 2 ∷ 1 ∷ 3 ∷ 1000 ∷ []

example-read : read· "vars=2\nmode=2\nphase=2\nunit=100\nclause=1 2\nclause=-1 2\nsolve=1000\nsolve=1000 -2\n" ≡ script example 4
unfolding read·
example-read = refl

example-printed : print example (5 ∷ 6 ∷ 7 ∷ 8 ∷ []) (1 ∷ 1 ∷ 0 ∷ 0 ∷ 2 ∷ 1 ∷ 0 ∷ 1 ∷ 1 ∷ 1 ∷ 2 ∷ [])
    ≡ bytes "answer=TRUE\nconflicts=0\nmodel=-1 2\nanswer=FALSE\nconflicts=1\nfinal=2\n"
unfolding print
example-printed = refl

-- ---- lines

-- the last line may lack its newline
last_line : read· "vars=1\nmode=0\nphase=0\nunit=1\nclause=" ≡ script (1 ∷ 512 ∷ 4096 ∷ 0 ∷ 0 ∷ 1 ∷ 1 ∷ 0 ∷ []) 1
unfolding read·
last_line = refl

no_records : read· "vars=1\nmode=0\nphase=0\nunit=1\n" ≡ script (1 ∷ 512 ∷ 4096 ∷ 0 ∷ 0 ∷ 1 ∷ []) 0
unfolding read·
no_records = refl

-- a carriage return is a byte like others
carriage_return : read· "vars=2\r\n" ≡ refused BadNumber 1 []
unfolding read·
carriage_return = refl

carriage_return_alone : read· "vars=1\nmode=0\nphase=0\nunit=1\nclause=\r\n" ≡ refused BadNumber 5 (1 ∷ 512 ∷ 4096 ∷ 0 ∷ 0 ∷ 1 ∷ [])
unfolding read·
carriage_return_alone = refl

-- ---- 13

empty : read· "" ≡ refused BadKey 1 []
unfolding read·
empty = refl

missing : read· "vars=2\nmode=1\nphase=0\n" ≡ refused BadKey 4 (2 ∷ 512 ∷ 4096 ∷ 1 ∷ 0 ∷ [])
unfolding read·
missing = refl

empty_line_first : read· "\nvars=2\n" ≡ refused BadKey 1 []
unfolding read·
empty_line_first = refl

empty_line_last : read· "vars=1\nmode=0\nphase=0\nunit=1\n\n" ≡ refused BadKey 5 (1 ∷ 512 ∷ 4096 ∷ 0 ∷ 0 ∷ 1 ∷ [])
unfolding read·
empty_line_last = refl

misplaced : read· "vars=1\nphase=0\n" ≡ refused BadKey 2 (1 ∷ 512 ∷ 4096 ∷ [])
unfolding read·
misplaced = refl

blank_first : read· " vars=1\n" ≡ refused BadKey 1 []
unfolding read·
blank_first = refl

again : read· "vars=1\nmode=0\nphase=0\nunit=1\nunit=1\n" ≡ refused BadKey 5 (1 ∷ 512 ∷ 4096 ∷ 0 ∷ 0 ∷ 1 ∷ [])
unfolding read·
again = refl

-- the whole text is judged before the run judges the script
mode_then_key : read· "vars=1\nmode=3\nphase=0\nunits=1\n" ≡ refused BadKey 4 (1 ∷ 512 ∷ 4096 ∷ 3 ∷ 0 ∷ [])
unfolding read·
mode_then_key = refl

-- ---- 14

-- a record behind a header of three variables
clause : String → Reading
unfolding read
clause text = read (bytes "vars=3\nmode=0\nphase=0\nunit=1\nclause=" ++ bytes text)

abbrev header : List ℕ
header = 3 ∷ 512 ∷ 4096 ∷ 0 ∷ 0 ∷ 1 ∷ []

signs : clause "1 -2 003\n" ≡ script (header ++ 1 ∷ 3 ∷ 0 ∷ 3 ∷ 4 ∷ []) 1
unfolding clause
signs = refl

repeats : clause "1 1 -1" ≡ script (header ++ 1 ∷ 3 ∷ 0 ∷ 0 ∷ 1 ∷ []) 1
unfolding clause
repeats = refl

plus : clause "+1" ≡ refused BadNumber 5 header
unfolding clause
plus = refl

zero-literal : clause "0" ≡ refused BadNumber 5 header
unfolding clause
zero-literal = refl

minus-zero : clause "-0" ≡ refused BadNumber 5 header
unfolding clause
minus-zero = refl

two_signs : clause "--1" ≡ refused BadNumber 5 header
unfolding clause
two_signs = refl

sign_alone : clause "-" ≡ refused BadNumber 5 header
unfolding clause
sign_alone = refl

tab : clause "1\t2" ≡ refused BadNumber 5 header
unfolding clause
tab = refl

two_blanks : clause "1  2" ≡ refused BadNumber 5 header
unfolding clause
two_blanks = refl

blank_before : clause " 1" ≡ refused BadNumber 5 header
unfolding clause
blank_before = refl

blank_behind : clause "1 " ≡ refused BadNumber 5 header
unfolding clause
blank_behind = refl

blank_alone : clause " " ≡ refused BadNumber 5 header
unfolding clause
blank_alone = refl

beyond : clause "1\nclause=-4" ≡ refused BadNumber 6 (header ++ 1 ∷ 1 ∷ 0 ∷ [])
unfolding clause
beyond = refl

no_budget : clause "\nsolve=" ≡ refused BadNumber 6 (header ++ 1 ∷ 0 ∷ [])
unfolding clause
no_budget = refl

negative_budget : clause "\nsolve=-1" ≡ refused BadNumber 6 (header ++ 1 ∷ 0 ∷ [])
unfolding clause
negative_budget = refl

largest_budget : clause "\nsolve=4294967295 3" ≡ script (header ++ 1 ∷ 0 ∷ 2 ∷ 1 ∷ 4 ∷ 4294967295 ∷ []) 2
unfolding clause
largest_budget = refl

budget-too_large : clause "\nsolve=4294967296" ≡ refused BadNumber 6 (header ++ 1 ∷ 0 ∷ [])
unfolding clause
budget-too_large = refl

no_vars : read· "vars=\n" ≡ refused BadNumber 1 []
unfolding read·
no_vars = refl

negative_vars : read· "vars=-1\n" ≡ refused BadNumber 1 []
unfolding read·
negative_vars = refl

-- with no variables any literal is 14; without one the text is a script, which the run refuses
zero_vars : read· "vars=0\nmode=0\nphase=0\nunit=1\nclause=1\n" ≡ refused BadNumber 5 (0 ∷ 512 ∷ 4096 ∷ 0 ∷ 0 ∷ 1 ∷ [])
unfolding read·
zero_vars = refl

zero_vars_alone : read· "vars=00\nmode=7\nphase=8\nunit=9\n" ≡ script (0 ∷ 512 ∷ 4096 ∷ 7 ∷ 8 ∷ 9 ∷ []) 0
unfolding read·
zero_vars_alone = refl

-- ---- 15

vars_over : read· "vars=129\n" ≡ refused LongText 1 []
unfolding read·
vars_over = refl

vars_most : read· "vars=128\nmode=0\nphase=0\nunit=1\n" ≡ script (128 ∷ 512 ∷ 4096 ∷ 0 ∷ 0 ∷ 1 ∷ []) 0
unfolding read·
vars_most = refl

-- vars far beyond what a number may be is 14
vars_14 : read· "vars=4294967296\n" ≡ refused BadNumber 1 []
unfolding read·
vars_14 = refl

-- a script of 16 cells at most, in place of 16,384: the line that passes it, 14 on that line first
short : String → Reading
unfolding read
short text = read_text 16 (bytes text)

fits : short "vars=2\nmode=0\nphase=0\nunit=1\nclause=1 2 1\nclause=1 2 1\n" ≡ script (2 ∷ 512 ∷ 4096 ∷ 0 ∷ 0 ∷ 1 ∷ 1 ∷ 3 ∷ 0 ∷ 2 ∷ 0 ∷ 1 ∷ 3 ∷ 0 ∷ 2 ∷ 0 ∷ []) 2
unfolding short
fits = refl

too_long : short "vars=2\nmode=0\nphase=0\nunit=1\nclause=1 2 1\nclause=1 2 1 2\n" ≡ refused LongText 6 (2 ∷ 512 ∷ 4096 ∷ 0 ∷ 0 ∷ 1 ∷ 1 ∷ 3 ∷ 0 ∷ 2 ∷ 0 ∷ [])
unfolding short
too_long = refl

too_long_14 : short "vars=2\nmode=0\nphase=0\nunit=1\nclause=1 2 1\nclause=1 2 1 3\n" ≡ refused BadNumber 6 (2 ∷ 512 ∷ 4096 ∷ 0 ∷ 0 ∷ 1 ∷ 1 ∷ 3 ∷ 0 ∷ 2 ∷ 0 ∷ [])
unfolding short
too_long_14 = refl

-- a text over 1,048,576 bytes, whatever it holds
long : (text : List ℕ) → max_bytes < length text → read_text max_cells text ≡ refused LongText 0 []
unfolding read_text
long text h = rw (lt-leb (length text) max_bytes h, read_text)

-- ---- answers

-- a clause of line 5 answered 2; a solve that stopped with cause 1, and one whose final clause is empty
others-printed : print (1 ∷ 512 ∷ 4096 ∷ 0 ∷ 0 ∷ 1 ∷ 1 ∷ 1 ∷ 0 ∷ 2 ∷ 0 ∷ 7 ∷ 1 ∷ 0 ∷ 2 ∷ 0 ∷ 7 ∷ []) (5 ∷ 6 ∷ 7 ∷ 8 ∷ []) (2 ∷ 2 ∷ 10 ∷ 1 ∷ 1 ∷ 0 ∷ 1 ∷ 0 ∷ 0 ∷ [])
    ≡ bytes "untaken=5\nanswer=UNDEF\nconflicts=10\ncause=1\nanswer=FALSE\nconflicts=0\nfinal=\n"
unfolding print
others-printed = refl

refusal_printed : printed_refusal 15 0 ≡ bytes "refused=15\nplace=0\n"
unfolding print
refusal_printed = refl

place-printed : printed_refusal 12 4294967295 ≡ bytes "refused=12\nplace=4294967295\n"
unfolding print
place-printed = refl
