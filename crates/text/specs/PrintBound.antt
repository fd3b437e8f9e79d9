-- How long the printed answers are: a slice of 1,048,576 bytes holds those of any script of 16,384 cells.
use Rattle.std.specs.Prelude.{ℕ, zero, suc, ◌+◌, ◌*◌, ◌/◌, ◌%◌, ◌^◌, ◌≤◌, ◌<◌, ◌≡◌, List, [], ◌∷◌, ◌++◌, length, get_or, take, drop}
use Rattle.std.proofs.Common.{ap, arith, pow-suc, length-append, length-drop, length-take, get_or-drop, get_or-take}
use Rattle.std.proofs.Math.Decide.{dec_lt, ℕ_discrete}
use Rattle.std.proofs.Math.ListN.{get_or-eq_default}
use Rattle.model.specs.Limits.{header_cells}
use Rattle.model.specs.Script.{trailing}
use Rattle.refusal.specs.declared.Rule.{Rule}
use Rattle.refusal.specs.declared.Rule.TheVariants.{ShortHeader}
use Rattle.refusal.specs.declared.Refusal.{Refusal}
use Rattle.refusal.specs.Number.{number}
use Rattle.text.specs.Bytes.{bytes, newline}
use Rattle.text.specs.Limits.{max_number, max_cells, max_bytes, first_record}
use Rattle.text.specs.Number.{shown, shown_literal}
use Rattle.text.specs.Format.{lines_from, record_lines}
use Rattle.text.specs.Answers.{
  numbered,
  printed_refusal,
  item,
  spaced,
  listed,
  verdict,
  body_key,
  body,
  printed_solve,
  printed_clause,
  printed_record,
  answer_cells,
  kinds,
  printed_records,
  printed,
}
use Rattle.text.specs.WriteLaws.{shown_one, shown_more}
use Rattle.text.specs.PrintLaws as law

-- cells of 32 bits
unfoldable pub Small : List ℕ → Type 0
Small xs = (k : ℕ) → get_or xs k 0 ≤ max_number

shown-length : (k n : ℕ) → n < 10 ^ suc k → length (shown n) ≤ suc k
shown-length zero n h = omega (arith, ap length (shown_one n h))
shown-length (suc k) n h = go (λ l. shown-length k (n / 10) l) (dec_lt n 10)
  where
    go : (n / 10 < 10 ^ suc k → length (shown (n / 10)) ≤ suc k) → Dec (n < 10) → length (shown n) ≤ suc (suc k)
    go ih (yes l) = omega (arith, ap length (shown_one n l))
    go ih (no l) =
        let s = length-append (shown (n / 10)) ((48 + n % 10) ∷ []) in
        omega (arith, ap length (shown_more n (omega arith)), s, ih (omega (arith, pow-suc 10 (suc k))))

pub number_length : (n : ℕ) → n ≤ 4294967296 → length (shown n) ≤ 10
number_length n h = shown-length 9 n (omega arith)

literal-length : (l : ℕ) → l / 2 + 1 ≤ 4294967296 → length (shown_literal l) ≤ 11
literal-length l h = go (ℕ_discrete (l % 2) 0)
  where
    go : Dec (l % 2 ≡ 0) → length (shown_literal l) ≤ 11
    go (yes e) = omega (arith, ap length (law.literal_even l e), number_length (l / 2 + 1) h)
    go (no e) = omega (arith, ap length (law.literal_odd l e), number_length (l / 2 + 1) h)

item_small : (answer i x : ℕ) → i < 4294967296 → x ≤ max_number → item answer i x / 2 + 1 ≤ 4294967296
item_small answer i x h k = go (ℕ_discrete answer 0) (ℕ_discrete x 0)
  where
    go : Dec (answer ≡ 0) → Dec (x ≡ 0) → item answer i x / 2 + 1 ≤ 4294967296
    go (yes e) (yes f) = omega (arith, law.item_true answer i x e f)
    go (yes e) (no f) = omega (arith, law.item_false answer i x e f)
    go (no e) d = omega (arith, law.item_other answer i x e)

spaced-length : (i : ℕ) (word : List ℕ) → length (spaced i word) ≤ 1 + length word
spaced-length i word = go (ℕ_discrete i 0)
  where
    go : Dec (i ≡ 0) → length (spaced i word) ≤ 1 + length word
    go (yes e) = omega (arith, ap length (law.spaced_first i word e))
    go (no e) = omega (arith, ap length (law.spaced_later i word e))

listed-length : (answer i : ℕ) (xs : List ℕ) → Small xs → i + length xs ≤ 4294967296 → length (listed answer i xs) ≤ 12 * length xs
unfolding listed Small
listed-length answer i [] s h = omega arith
listed-length answer i (x ∷ xs) s h =
    let w = spaced i (shown_literal (item answer i x)) in
    let a = length-append w (listed answer (i + 1) xs) in
    let b = spaced-length i (shown_literal (item answer i x)) in
    let c = literal-length (item answer i x) (item_small answer i x (omega arith) (s 0)) in
    let r = listed-length answer (i + 1) xs (λ k. s (suc k)) (omega arith) in
    omega arith

pub numbered-length : (key : List ℕ) (n : ℕ) → n ≤ max_number → length (numbered key n) ≤ length key + 11
unfolding numbered
numbered-length key n h = omega (arith, length-append (key ++ shown n) (10 ∷ []), length-append key (shown n), number_length n (omega arith))

pub verdict-length : (answer : ℕ) → length (verdict answer) ≤ 13
verdict-length answer = go (ℕ_discrete answer 0) (ℕ_discrete answer 1)
  where
    go : Dec (answer ≡ 0) → Dec (answer ≡ 1) → length (verdict answer) ≤ 13
    go (yes e) d = omega (arith, ap length (law.verdict_true answer e))
    go (no e) (yes f) = omega (arith, ap length (law.verdict_false answer f))
    go (no e) (no f) = omega (arith, ap length (law.verdict_undef answer e f))

key_length : (answer : ℕ) → length (body_key answer) ≤ 6
key_length answer = go (ℕ_discrete answer 0)
  where
    go : Dec (answer ≡ 0) → length (body_key answer) ≤ 6
    go (yes e) = omega (arith, ap length (law.key_model answer e))
    go (no e) = omega (arith, ap length (law.key_final answer e))

body-length : (answer : ℕ) (xs : List ℕ) → Small xs → length xs ≤ 4294967296 → length (body answer xs) ≤ 17 + 12 * length xs
unfolding Small
body-length answer xs s h = go (ℕ_discrete answer 2)
  where
    go : Dec (answer ≡ 2) → length (body answer xs) ≤ 17 + 12 * length xs
    go (yes e) = omega (arith, ap length (law.body_cause answer xs e), numbered-length (bytes "cause=") (get_or xs 0 0) (s 0))
    go (no e) =
        let a = length-append (body_key answer ++ listed answer 0 xs) (10 ∷ []) in
        let b = length-append (body_key answer) (listed answer 0 xs) in
        omega (arith, ap length (law.body-listed answer xs e), key_length answer, listed-length answer 0 xs s (omega arith))

small_drop : (n : ℕ) (xs : List ℕ) → Small xs → Small (drop n xs)
unfolding Small
small_drop n xs s k = rw (get_or-drop n xs k 0) (s (n + k))

small_take : (n : ℕ) (xs : List ℕ) → Small xs → Small (take n xs)
unfolding Small
small_take n xs s k = go (dec_lt k n)
  where
    go : Dec (k < n) → get_or (take n xs) k 0 ≤ max_number
    go (yes h) = rw (get_or-take n xs k 0 h) (s k)
    go (no h) =
        let m : length (take n xs) ≤ k = omega (arith, length-take n xs) in
        rw (get_or-eq_default (take n xs) 0 {n = k} m) (omega arith)

solve-length : (out : List ℕ) → Small out → length out ≤ max_number → length (printed_solve out) ≤ 51 + 12 * length (take (get_or out 2 0) (drop 3 out))
unfolding printed_solve Small
solve-length out s h =
    let xs = take (get_or out 2 0) (drop 3 out) in
    let v = verdict (get_or out 0 0) in
    let n = numbered (bytes "conflicts=") (get_or out 1 0) in
    let b = body (get_or out 0 0) xs in
    omega (
      arith,
      length-append (v ++ n) b,
      length-append v n,
      verdict-length (get_or out 0 0),
      numbered-length (bytes "conflicts=") (get_or out 1 0) (s 1),
      body-length (get_or out 0 0) xs (small_take (get_or out 2 0) (drop 3 out) (small_drop 3 out s)) (omega (arith, length-take (get_or out 2 0) (drop 3 out), length-drop 3 out)),
    )

clause-length : (line answer : ℕ) → line ≤ max_number → length (printed_clause line answer) ≤ 19
clause-length line answer h = go (ℕ_discrete answer 2)
  where
    go : Dec (answer ≡ 2) → length (printed_clause line answer) ≤ 19
    go (yes e) = omega (arith, ap length (law.clause_untaken line answer e), numbered-length (bytes "untaken=") line h)
    go (no e) = omega (arith, ap length (law.clause_silent line answer e))

record_length : (kind line : ℕ) (out : List ℕ) → Small out → length out ≤ max_number → line ≤ max_number
    → length (printed_record kind line out) + 12 * length (drop (answer_cells kind out) out) ≤ 51 + 12 * length out
record_length kind line out s h l = go (ℕ_discrete kind 2)
  where
    go : Dec (kind ≡ 2) → length (printed_record kind line out) + 12 * length (drop (answer_cells kind out) out) ≤ 51 + 12 * length out
    go (yes e) =
        omega (
          arith,
          ap length (law.record_solve kind line out e),
          solve-length out s h,
          length-drop (answer_cells kind out) out,
          law.cells-solve kind out e,
          length-take (get_or out 2 0) (drop 3 out),
          length-drop 3 out,
        )
    go (no e) =
        omega (arith, ap length (law.record_clause kind line out e), clause-length line (get_or out 0 0) l, length-drop (answer_cells kind out) out)

records-length : (ks lines out : List ℕ) → Small lines → Small out → length out ≤ max_number → length (printed_records ks lines out) ≤ 51 * length ks + 12 * length out
unfolding printed_records Small
records-length [] lines out sl s h = omega arith
records-length (kind ∷ ks) lines out sl s h =
    let rest = drop (answer_cells kind out) out in
    let a = length-append (printed_record kind (get_or lines 0 0) out) (printed_records ks (drop 1 lines) rest) in
    let b = record_length kind (get_or lines 0 0) out s h (sl 0) in
    let r = records-length ks (drop 1 lines) rest (small_drop 1 lines sl) (small_drop (answer_cells kind out) out s) (omega (arith, length-drop (answer_cells kind out) out)) in
    omega arith

kinds-length : (skip : ℕ) (l : List ℕ) → length (kinds skip l) ≤ length l
unfolding kinds
kinds-length skip [] = omega arith
kinds-length zero (kind ∷ rest) = omega (arith, kinds-length (suc (get_or rest 0 0 + trailing kind)) rest)
kinds-length (suc skip) (x ∷ rest) = omega (arith, kinds-length skip rest)

pub printed-length : (script lines out : List ℕ) → Small lines → Small out → length script ≤ max_cells → length out ≤ max_cells → length (printed script lines out) ≤ max_bytes
unfolding printed
printed-length script lines out sl s h k =
    omega (arith, records-length (kinds header_cells script) lines out sl s (omega arith), kinds-length header_cells script)

-- the lines of records are so few that each has its number
lines_under : (line n k m : ℕ) → line + n ≤ m → get_or (lines_from line n) k 0 ≤ m
unfolding lines_from
lines_under line zero k m h = omega arith
lines_under line (suc n) zero m h = omega arith
lines_under line (suc n) (suc k) m h = lines_under (line + 1) n k m (omega arith)

pub lines_small : (n : ℕ) → n + first_record ≤ max_number → Small (record_lines n)
unfolding Small
lines_small n h k = lines_under first_record n k max_number (omega arith)

-- a number of 64 bits has 20 digits at most
pub refusal_length : (number place : ℕ) → number < 10 ^ 20 → place < 10 ^ 20 → length (printed_refusal number place) ≤ max_bytes
unfolding printed_refusal numbered
refusal_length number place h k =
    let a = numbered (bytes "refused=") number in
    let b = numbered (bytes "place=") place in
    omega (
      arith,
      length-append a b,
      length-append (bytes "refused=" ++ shown number) (newline ∷ []),
      length-append (bytes "refused=") (shown number),
      length-append (bytes "place=" ++ shown place) (newline ∷ []),
      length-append (bytes "place=") (shown place),
      shown-length 19 number h,
      shown-length 19 place k,
    )

number_most : (rule : Rule) → number rule ≤ 20
number_most ShortHeader = omega arith
number_most _ = omega arith

pub refused_length : (refusal : Refusal) → refusal.place < 10 ^ 20 → length (printed_refusal (number refusal.rule) refusal.place) ≤ max_bytes
refused_length refusal h = refusal_length (number refusal.rule) refusal.place (omega (arith, number_most refusal.rule)) h
