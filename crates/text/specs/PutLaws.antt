-- The cells of a line, stored first in the slice that is left.
use Rattle.std.specs.Option.{ok_or}
use Rattle.std.specs.Prelude.{ℕ, suc, ◌+◌, ◌-◌, ◌≤◌, ◌<◌, ◌≡◌, refl, Bool, true, false, Option, None, Some, Result, Ok, Err, List, [], ◌∷◌, ◌++◌, length, get_or, take, drop, set}
use Rattle.std.proofs.Common.{sym, ap, ◌∙◌, arith, length-append, length-take-le, append_assoc, take_at, drop_at, drop-drop, eq-eqb, ne_eqb, le-leb}
use Rattle.std.proofs.lemmas.Bool.{lt-leb}
use Rattle.refusal.specs.declared.Rule.{Rule}
use Rattle.refusal.specs.declared.Rule.TheVariants.{BadKey, BadNumber, LongText}
use Rattle.text.specs.Bytes.{bytes}
use Rattle.text.specs.Split.{starts, words}
use Rattle.text.specs.Number.{decimal}
use Rattle.text.specs.Format.{Cells, wrong, cells, literals, record_of, fitting, clause_cells, solve_cells, value_cells, with_sizes, record_cells, line_cells}
use Rattle.text.specs.FormatLaws.{over, Puts}

-- ---- stored, or not

fits : (room used : ℕ) (xs : List ℕ) → used + length xs ≤ room → fitting room used (cells xs) ≡ cells xs
unfolding fitting
fits room used xs h = rw (le-leb (used + length xs) room h, fitting)

fits_not : (room used : ℕ) (xs : List ℕ) → room < used + length xs → fitting room used (cells xs) ≡ wrong LongText
unfolding fitting
fits_not room used xs h = rw (lt-leb (used + length xs) room h, fitting)

pub puts_cells : {x : Cells} {s s' : List ℕ} {n : ℕ} (xs : List ℕ) → x ≡ cells xs → n ≡ length xs → n ≤ length s → s' ≡ over xs s → Puts x s s' (Ok n)
puts_cells {x} {s} xs e c h w =
    let f : fitting (length s) 0 x ≡ cells xs = ap (fitting (length s) 0) e ∙ fits (length s) 0 xs (omega arith) in
    record { answer = rw f (ap Ok (omega arith)); slice = rw f w }

pub puts_long : {x : Cells} {s : List ℕ} (xs : List ℕ) → x ≡ cells xs → length s < length xs → Puts x s s (Err LongText)
puts_long {x} {s} xs e h =
    let f : fitting (length s) 0 x ≡ wrong LongText = ap (fitting (length s) 0) e ∙ fits_not (length s) 0 xs (omega arith) in
    record { answer = rw f; slice = rw f }

pub puts_wrong : {x : Cells} {s : List ℕ} {k : Rule} → x ≡ wrong k → Puts x s s (Err k)
unfolding fitting
puts_wrong e = record { answer = rw (e, fitting); slice = rw (e, fitting) }

pub puts_as : {y : Cells} {s s' : List ℕ} {r : Result ℕ Rule} (x : Cells) → x ≡ y → Puts y s s' r → Puts x s s' r
puts_as x e p = rw e p

-- ---- a record

pub record_wrong : {x : Cells} {j : Rule} (k : ℕ) (more : List ℕ) → x ≡ wrong j → record_of k more x ≡ wrong j
unfolding record_of
record_wrong k more e = rw (e, record_of)

pub record_cells_of : {x : Cells} {ls : List ℕ} (k : ℕ) (more : List ℕ) → x ≡ cells ls → record_of k more x ≡ cells (k ∷ length ls ∷ ls ++ more)
unfolding record_of
record_cells_of k more e = rw (e, record_of)

-- the cells of a record, stored one part after the other
pub literals_room : (k m : ℕ) (s : List ℕ) → 2 + m ≤ length s → length (take (2 + m - 2) (drop 2 (set (set s 0 k) 1 m))) ≡ m
literals_room k m [] h = absurd (omega arith)
literals_room k m (x ∷ []) h = absurd (omega arith)
literals_room k m (x ∷ y ∷ t) h = length-take-le (2 + m - 2) t (omega arith) ∙ omega arith

pub recorded : (k m : ℕ) (s ls more ls' more' : List ℕ) → m ≡ length ls → ls' ≡ ls → more' ≡ more → 2 + m + length more ≤ length s
    → take (2 + m) (take 2 (set (set s 0 k) 1 m) ++ (ls' ++ drop (2 + m - 2) (drop 2 (set (set s 0 k) 1 m))))
    ++ (more' ++ drop (2 + m + length more - (2 + m)) (drop (2 + m) (take 2 (set (set s 0 k) 1 m) ++ (ls' ++ drop (2 + m - 2) (drop 2 (set (set s 0 k) 1 m))))))
    ≡ over (k ∷ length ls ∷ ls ++ more) s
recorded k m [] ls more ls' more' e f g h = absurd (omega arith)
recorded k m (x ∷ []) ls more ls' more' e f g h = absurd (omega arith)
recorded k m (x ∷ y ∷ t) ls more ls' more' e f g h =
    let a : 2 + m ≡ suc (suc m) = omega arith in
    let b : 2 + m - 2 ≡ m = omega arith in
    let d : suc (suc m) + length more - suc (suc m) ≡ length more = omega arith in
    let n : m + length more ≡ length (ls ++ more) = omega (arith, length-append ls more) in
    rw (f, g, b, a, d, take_at ls (drop m t) m (sym e), drop_at ls (drop m t) m (sym e), drop-drop (length more) m t, n)
    (ap (λ (i : ℕ). k ∷ i ∷ (ls ++ (more ++ drop (length (ls ++ more)) t))) e
    ∙ ap (λ (l : List ℕ). k ∷ length ls ∷ l) (sym (append_assoc ls more (drop (length (ls ++ more)) t))))

-- ---- a solve

pub solve_bad : (v : ℕ) (w : List ℕ) (ws : List (List ℕ)) → decimal w ≡ None → solve_cells v (w ∷ ws) ≡ wrong BadNumber
unfolding solve_cells
solve_bad v w ws e = rw (e, solve_cells)

pub solve_good : (v : ℕ) (w : List ℕ) (ws : List (List ℕ)) (b : ℕ) → decimal w ≡ Some b → solve_cells v (w ∷ ws) ≡ record_of 2 (b ∷ []) (literals v ws)
unfolding solve_cells
solve_good v w ws b e = rw (e, solve_cells)

-- ---- a line of the header

-- a field of the header: the rule that it breaks, or its value
abbrev pub field_of : Cells → Result ℕ Rule
field_of (wrong k) = Err k
field_of (cells xs) = Ok (get_or xs 0 0)

pub value_key : (key line : List ℕ) → starts key line ≡ false → value_cells key line ≡ wrong BadKey
unfolding value_cells
value_key key line e = rw (e, value_cells)

pub value_bad : (key line : List ℕ) → starts key line ≡ true → decimal (drop (length key) line) ≡ None → value_cells key line ≡ wrong BadNumber
unfolding value_cells
value_bad key line e d = rw (e, value_cells, d)

pub value_good : (key line : List ℕ) (n : ℕ) → starts key line ≡ true → decimal (drop (length key) line) ≡ Some n → value_cells key line ≡ cells (n ∷ [])
unfolding value_cells
value_good key line n e d = rw (e, value_cells, d)

pub value_is : (key line word : List ℕ) (d : Option ℕ) → starts key line ≡ true → word ≡ drop (length key) line → d ≡ decimal word
    → ok_or d BadNumber ≡ field_of (value_cells key line)
value_is key line word None s w e = ap field_of (sym (value_bad key line s (ap decimal (sym w) ∙ sym e)))
value_is key line word (Some n) s w e = ap field_of (sym (value_good key line n s (ap decimal (sym w) ∙ sym e)))

-- a field's cells have one cell
pub value_one : (key line : List ℕ) (n : ℕ) → Ok n ≡ field_of (value_cells key line) → value_cells key line ≡ cells (n ∷ [])
value_one key line n e = go (starts key line) refl (decimal (drop (length key) line)) refl
  where
    go : (t : Bool) → starts key line ≡ t → (d : Option ℕ) → decimal (drop (length key) line) ≡ d → value_cells key line ≡ cells (n ∷ [])
    go false q d p = let w = value_key key line q in cc
    go true q None p = let w = value_bad key line q p in cc
    go true q (Some m) p = let g = value_good key line m q p in let z : n ≡ m = cc in rw z g

pub value_wrong : (key line : List ℕ) (k : Rule) → Err k ≡ field_of (value_cells key line) → value_cells key line ≡ wrong k
value_wrong key line k e = go (value_cells key line) refl
  where
    go : (x : Cells) → value_cells key line ≡ x → value_cells key line ≡ wrong k
    go (wrong j) q = cc
    go (cells xs) q = cc

pub sizes_wrong : {x : Cells} {k : Rule} → x ≡ wrong k → with_sizes x ≡ wrong k
unfolding with_sizes
sizes_wrong e = rw (e, with_sizes)

pub sizes_over : {x : Cells} (n : ℕ) → x ≡ cells (n ∷ []) → 128 < n → with_sizes x ≡ wrong LongText
unfolding with_sizes
sizes_over n e h = rw (e, lt-leb n 128 h, with_sizes)

pub sizes : {x : Cells} (n : ℕ) → x ≡ cells (n ∷ []) → n ≤ 128 → with_sizes x ≡ cells (n ∷ 512 ∷ 4096 ∷ [])
unfolding with_sizes
sizes n e h = rw (e, le-leb n 128 h, with_sizes)

-- ---- any line

pub record_clause : (v : ℕ) (line : List ℕ) → starts (bytes "clause=") line ≡ true → record_cells v line ≡ clause_cells v (drop 7 line)
unfolding record_cells
record_clause v line e = rw (e, record_cells)

pub record_solve : (v : ℕ) (line : List ℕ) → starts (bytes "clause=") line ≡ false → starts (bytes "solve=") line ≡ true
    → record_cells v line ≡ solve_cells v (words (drop 6 line))
unfolding record_cells
record_solve v line e d = rw (e, record_cells, d)

pub record_neither : (v : ℕ) (line : List ℕ) → starts (bytes "clause=") line ≡ false → starts (bytes "solve=") line ≡ false → record_cells v line ≡ wrong BadKey
unfolding record_cells
record_neither v line e d = rw (e, record_cells, d)

-- a line's cells by its number
pub line_1 : (n v : ℕ) (line : List ℕ) → n ≡ 1 → line_cells n v line ≡ with_sizes (value_cells (bytes "vars=") line)
unfolding line_cells
line_1 n v line e = rw (line_cells, eq-eqb n 1 e)

pub line_2 : (n v : ℕ) (line : List ℕ) → n ≡ 2 → line_cells n v line ≡ value_cells (bytes "mode=") line
unfolding line_cells
line_2 n v line e = rw (line_cells, ne_eqb n 1 (omega arith), eq-eqb n 2 e)

pub line_3 : (n v : ℕ) (line : List ℕ) → n ≡ 3 → line_cells n v line ≡ value_cells (bytes "phase=") line
unfolding line_cells
line_3 n v line e = rw (line_cells, ne_eqb n 1 (omega arith), ne_eqb n 2 (omega arith), eq-eqb n 3 e)

pub line_4 : (n v : ℕ) (line : List ℕ) → n ≡ 4 → line_cells n v line ≡ value_cells (bytes "unit=") line
unfolding line_cells
line_4 n v line e = rw (line_cells, ne_eqb n 1 (omega arith), ne_eqb n 2 (omega arith), ne_eqb n 3 (omega arith), eq-eqb n 4 e)

pub line_5 : (n v : ℕ) (line : List ℕ) → (n ≡ 1 → ⊥) → (n ≡ 2 → ⊥) → (n ≡ 3 → ⊥) → (n ≡ 4 → ⊥) → line_cells n v line ≡ record_cells v line
unfolding line_cells
line_5 n v line a b c d = rw (line_cells, ne_eqb n 1 a, ne_eqb n 2 b, ne_eqb n 3 c, ne_eqb n 4 d)
