-- Numbers and literals as words of a text: read, and printed.
use Rattle.std.specs.Prelude.{ℕ, zero, suc, ◌+◌, ◌*◌, ◌-◌, ◌/◌, ◌%◌, true, false, ◌&&◌, Option, None, Some, List, [], ◌∷◌, ◌++◌, eqb, leb, ltb}
use Rattle.text.specs.Bytes.{minus, zero_digit, nine_digit}
use Rattle.text.specs.Limits.{max_number}

-- ---- reading

unfoldable pub fitting : ℕ → Option ℕ
fitting n = elim (leb n max_number) [ true ↦ Some n | false ↦ None ]

-- the value n with one digit more
unfoldable pub digit : ℕ → ℕ → Option ℕ
digit n b = elim (leb zero_digit b && leb b nine_digit) [ true ↦ fitting (10 * n + (b - zero_digit)) | false ↦ None ]

-- the value n with the word's digits behind it
unfoldable pub digits : ℕ → List ℕ → Option ℕ
digits n [] = Some n
digits n (b ∷ bs) = elim (digit n b) [ None ↦ None | Some m ↦ digits m bs ]

-- a word of one digit or more
unfoldable pub decimal : List ℕ → Option ℕ
decimal [] = None
decimal (b ∷ bs) = digits 0 (b ∷ bs)

-- the literal of a number from 1 to v; the sign is 0, or 1 for a negated one
unfoldable pub signed : ℕ → ℕ → Option ℕ → Option ℕ
signed v sign None = None
signed v sign (Some n) = elim (leb 1 n && leb n v) [ true ↦ Some (2 * (n - 1) + sign) | false ↦ None ]

-- a number, or a minus and a number
unfoldable pub literal : ℕ → List ℕ → Option ℕ
literal v [] = None
literal v (b ∷ bs) = elim (eqb b minus) [ true ↦ signed v 1 (decimal bs) | false ↦ signed v 0 (decimal (b ∷ bs)) ]

-- ---- printing

-- the digits of n; n turns are enough
unfoldable pub digits_of : ℕ → ℕ → List ℕ
digits_of zero n = (zero_digit + n) ∷ []
digits_of (suc turns) n = elim (ltb n 10) [ true ↦ (zero_digit + n) ∷ [] | false ↦ digits_of turns (n / 10) ++ (zero_digit + n % 10) ∷ [] ]

unfoldable pub shown : ℕ → List ℕ
shown n = digits_of n n

unfoldable pub shown_literal : ℕ → List ℕ
shown_literal l = elim (eqb (l % 2) 0) [ true ↦ shown (l / 2 + 1) | false ↦ minus ∷ shown (l / 2 + 1) ]
