-- The writer's loops: what is left to write, turn by turn; and how many cells there are.
use Rattle.std.specs.Prelude.{ℕ, zero, suc, ◌+◌, ◌-◌, ◌*◌, ◌≤◌, ◌<◌, ◌≡◌, refl, List, [], ◌∷◌, ◌++◌, length, get_or, drop}
use Rattle.std.proofs.Common.{arith, suc-mul, add-one, ap, sym, ◌∙◌, subst, drop_of_length-le, drop-cons, lt-ltb, le-ltb, eq-eqb, ne_eqb, le-leb}
use Rattle.model.specs.Lit.{neg}
use Rattle.lawbase.specs.Basics.{split, same?, less?}
use Rattle.counter.specs.Counter.{helper, columns, stop, next_row, rows, zeros, counter, negations, at_most, cells, max_count, needed, len_of, pair}
use Rattle.counter.specs.Wrote.{Wrote, Fits, Left}
use Rattle.counter.proofs.Wrote.{left_all, left_step, length-cells, cells_one}
use Rattle.counter.specs.Writing.{row_tail}

-- ---- a clause that is next

-- one clause more is written
pub left_one : {out₀ : List ℕ} {at₀ : ℕ} {whole : List (List ℕ)} {out : List ℕ} {at : ℕ} {c : List ℕ} {left : List (List ℕ)} {out' : List ℕ} {mid : ℕ}
    → Left out₀ at₀ whole out at (c ∷ left) → Wrote out at (c ∷ []) out' mid → Left out₀ at₀ whole out' mid left
left_one {c = c} l w = left_step {one = c ∷ []} l w

-- there is room for it
pub room_one : (at n : ℕ) (c : List ℕ) (left : List (List ℕ)) → Fits at (c ∷ left) n → at + 2 + length c ≤ n
room_one at n c left h = omega (arith, h, length-cells (c ∷ []) left, ap length (cells_one c))

-- the same, where what is left has another form
pub left_as : {out₀ : List ℕ} {at₀ : ℕ} {whole : List (List ℕ)} {out : List ℕ} {at : ℕ} {left left' : List (List ℕ)}
    → Left out₀ at₀ whole out at left → left ≡ left' → Left out₀ at₀ whole out at left'
left_as {out₀} {at₀} {whole} {out} {at} l e = subst (Left out₀ at₀ whole out at) e l

pub fits_as : (at n : ℕ) {cs cs' : List (List ℕ)} → Fits at cs n → cs ≡ cs' → Fits at cs' n
fits_as at n h e = subst (λ (z : List (List ℕ)). Fits at z n) e h

-- the place behind one clause
pub wrote_one : {out : List ℕ} {at : ℕ} {c out' : List ℕ} {end : ℕ} → Wrote out at (c ∷ []) out' end → end ≡ at + 2 + length c
wrote_one {c = c} w = omega (arith, w.behind, ap length (cells_one c))

-- ---- turns of the loops

pub negations_next : (ls : List ℕ) (i : ℕ) → i < length ls → negations (drop i ls) ≡ (neg (get_or ls i 0) ∷ []) ∷ negations (drop (i + 1) ls)
unfolding negations
negations_next ls i h = ap negations (drop-cons ls i 0 h) ∙ ap (λ (n : ℕ). (neg (get_or ls i 0) ∷ []) ∷ negations (drop n ls)) (sym (add-one i))

pub negations_end : (ls : List ℕ) (i : ℕ) → length ls ≤ i → negations (drop i ls) ≡ []
unfolding negations
negations_end ls i h = ap negations (drop_of_length-le ls h)

-- columns from j on, from 1, of k
one_less : (k j : ℕ) → j < k → k - j ≡ suc (k - (j + 1))
one_less k j h = omega arith

none_less : (k j : ℕ) → k ≤ j → k - j ≡ 0
none_less k j h = omega arith

pub zeros_next : (base k j : ℕ) → 1 ≤ j → j < k → zeros base (j - 1) (k - j) ≡ (neg (helper base j) ∷ []) ∷ zeros base (j + 1 - 1) (k - (j + 1))
unfolding zeros
zeros_next base k j p h =
    let e : suc (j - 1) ≡ j = omega arith in
    let f : suc (j - 1) ≡ j + 1 - 1 = omega arith in
    ap (zeros base (j - 1)) (one_less k j h)
    ∙ ap (λ (i : ℕ). (neg (helper base i) ∷ []) ∷ zeros base (suc (j - 1)) (k - (j + 1))) e
    ∙ ap (λ (i : ℕ). (neg (helper base j) ∷ []) ∷ zeros base i (k - (j + 1))) f

pub zeros_end : (base k j : ℕ) → k ≤ j → zeros base (j - 1) (k - j) ≡ []
unfolding zeros
zeros_end base k j h = ap (zeros base (j - 1)) (none_less k j h)

pub pair_room : (at n x base next j : ℕ) → Fits at (pair x base next j) n → at + 9 ≤ n
pair_room at n x base next j h =
    let c = neg x ∷ neg (helper base j) ∷ helper next (j + 1) ∷ [] in
    let d = neg (helper base (j + 1)) ∷ helper next (j + 1) ∷ [] in
    omega (arith, h, length-cells (c ∷ []) (d ∷ []), ap length (cells_one c), ap length (cells_one d))

pub columns_next : (x base next k j : ℕ) → 1 ≤ j → j < k
    → columns x base next (j - 1) (k - j) ≡ pair x base next (j - 1) ++ columns x base next (j + 1 - 1) (k - (j + 1))
unfolding columns
columns_next x base next k j p h =
    let e : suc (j - 1) ≡ j - 1 + 1 = omega arith in
    let f : suc (j - 1) ≡ j + 1 - 1 = omega arith in
    ap (columns x base next (j - 1)) (one_less k j h)
    ∙ ap (λ (i : ℕ). (neg x ∷ neg (helper base (j - 1)) ∷ helper next i ∷ []) ∷ (neg (helper base i) ∷ helper next i ∷ []) ∷ columns x base next (suc (j - 1)) (k - (j + 1))) e
    ∙ ap (λ (i : ℕ). pair x base next (j - 1) ++ columns x base next i (k - (j + 1))) f

pub columns_end : (x base next k j : ℕ) → k ≤ j → columns x base next (j - 1) (k - j) ≡ []
unfolding columns
columns_end x base next k j h = ap (columns x base next (j - 1)) (none_less k j h)

-- x is the literal at i
pub rows_next : (k base : ℕ) (ls : List ℕ) (i x : ℕ) → i + 1 < length ls → x ≡ get_or ls i 0
    → rows k base (drop i ls) ≡ next_row k x base ++ rows k (base + k) (drop (i + 1) ls)
unfolding rows
rows_next k base ls i x h e =
    let a : drop i ls ≡ get_or ls i 0 ∷ drop (i + 1) ls = drop-cons ls i 0 (omega arith) ∙ ap (λ (n : ℕ). get_or ls i 0 ∷ drop n ls) (sym (add-one i)) in
    let b : drop (i + 1) ls ≡ get_or ls (i + 1) 0 ∷ drop (suc (i + 1)) ls = drop-cons ls (i + 1) 0 h in
    ap (rows k base) (a ∙ ap (λ (r : List ℕ). get_or ls i 0 ∷ r) b)
    ∙ ap (λ (r : List ℕ). next_row k (get_or ls i 0) base ++ rows k (base + k) r) (sym b)
    ∙ ap (λ (l : ℕ). next_row k l base ++ rows k (base + k) (drop (i + 1) ls)) (sym e)

pub rows_last : (k base : ℕ) (ls : List ℕ) (i last : ℕ) → i + 1 ≡ length ls → last ≡ i → rows k base (drop i ls) ≡ stop k (get_or ls last 0) base ∷ []
unfolding rows
rows_last k base ls i last h e =
    let f : suc i ≡ length ls = omega arith in
    ap (rows k base) (drop-cons ls i 0 (omega arith) ∙ ap (λ (r : List ℕ). get_or ls i 0 ∷ r) (drop_of_length-le ls {i = suc i} (omega arith)))
    ∙ ap (λ (j : ℕ). stop k (get_or ls j 0) base ∷ []) (sym e)

-- rows that are left, each of k helpers
pub one_row : (m k : ℕ) → 1 ≤ m → m * k ≡ (m - 1) * k + k
one_row m k h = ap (λ (n : ℕ). n * k) (up m h) ∙ suc-mul (m - 1) k
  where
    up : (m : ℕ) → 1 ≤ m → m ≡ suc (m - 1)
    up m h = omega arith

pub row_less : (n i k : ℕ) → (n - (i + 1)) * k ≡ (n - i - 1) * k
row_less n i k = ap (λ (m : ℕ). m * k) (down n i)
  where
    down : (n i : ℕ) → n - (i + 1) ≡ n - i - 1
    down n i = omega arith

-- the counter, taken apart as the code goes
pub counter_parts : (k first : ℕ) (ls : List ℕ) → 1 ≤ length ls
    → counter k first ls ≡ (neg (get_or ls 0 0) ∷ helper first 0 ∷ []) ∷ (zeros first 0 (k - 1) ++ rows k first (drop 1 ls))
unfolding counter
counter_parts k first [] h = absurd (omega arith)
counter_parts k first (x ∷ xs) h = refl

pub row_parts : (k x base : ℕ)
    → next_row k x base
    ≡ (neg x ∷ helper (base + k) 0 ∷ []) ∷ (neg (helper base 0) ∷ helper (base + k) 0 ∷ []) ∷ (columns x base (base + k) 0 (k - 1) ++ (stop k x base ∷ []))
unfolding next_row
row_parts k x base = refl

-- what is to be written of a row, clause by clause
module _ (k x base : ℕ) (out : List ℕ) (at : ℕ) (fits : Fits at (next_row k x base) (length out)) where
  pub row_start : Left out at (next_row k x base) out at ((neg x ∷ helper (base + k) 0 ∷ []) ∷ (neg (helper base 0) ∷ helper (base + k) 0 ∷ []) ∷ row_tail k x base)
  row_start = left_as (left_all out at (next_row k x base) fits) (row_parts k x base)

-- ---- how many cells

cells_more : (c : List ℕ) (cs : List (List ℕ)) → length (cells (c ∷ cs)) ≡ 2 + length c + length (cells cs)
cells_more c cs = omega (arith, length-cells (c ∷ []) cs, ap length (cells_one c))

cells_none : length (cells []) ≡ 0
unfolding cells
cells_none = refl

negations-cells : (ls : List ℕ) → length (cells (negations ls)) ≡ 3 * length ls
unfolding negations
negations-cells [] = cells_none
negations-cells (x ∷ xs) = omega (arith, cells_more (neg x ∷ []) (negations xs), negations-cells xs)

zeros-cells : (base j m : ℕ) → length (cells (zeros base j m)) ≡ 3 * m
unfolding zeros
zeros-cells base j zero = cells_none
zeros-cells base j (suc m) = omega (arith, cells_more (neg (helper base (suc j)) ∷ []) (zeros base (suc j) m), zeros-cells base (suc j) m)

columns-cells : (x base next j m : ℕ) → length (cells (columns x base next j m)) ≡ 9 * m
unfolding columns
columns-cells x base next j zero = cells_none
columns-cells x base next j (suc m) =
    let c = neg x ∷ neg (helper base j) ∷ helper next (suc j) ∷ [] in
    let d = neg (helper base (suc j)) ∷ helper next (suc j) ∷ [] in
    let rest = columns x base next (suc j) m in
    omega (arith, cells_more c (d ∷ rest), cells_more d rest, columns-cells x base next (suc j) m)

stop_cells : (k x base : ℕ) → length (cells (stop k x base ∷ [])) ≡ 4
unfolding stop
stop_cells k x base = omega (arith, cells_more (neg x ∷ neg (helper base (k - 1)) ∷ []) [], cells_none)

row_cells : (k x base : ℕ) → 1 ≤ k → length (cells (next_row k x base)) ≡ 9 * k + 3
unfolding next_row
row_cells k x base some =
    let c = neg x ∷ helper (base + k) 0 ∷ [] in
    let d = neg (helper base 0) ∷ helper (base + k) 0 ∷ [] in
    let cols = columns x base (base + k) 0 (k - 1) in
    omega (
      arith,
      cells_more c (d ∷ (cols ++ (stop k x base ∷ []))),
      cells_more d (cols ++ (stop k x base ∷ [])),
      length-cells cols (stop k x base ∷ []),
      columns-cells x base (base + k) 0 (k - 1),
      stop_cells k x base,
    )

rows-cells : (k base : ℕ) → 1 ≤ k → (y : ℕ) (ys : List ℕ) → length (cells (rows k base (y ∷ ys))) ≡ length ys * (9 * k + 3) + 4
unfolding rows
rows-cells k base some y [] = omega (arith, stop_cells k y base)
rows-cells k base some y (z ∷ ys) =
    omega (arith, length-cells (next_row k y base) (rows k (base + k) (z ∷ ys)), row_cells k y base some, rows-cells k (base + k) some z ys, suc-mul (length ys) (9 * k + 3))

counter-cells : (k first : ℕ) → 1 ≤ k → (x y : ℕ) (ys : List ℕ) → length (cells (counter k first (x ∷ y ∷ ys))) ≡ 8 + 3 * (k - 1) + length ys * (9 * k + 3)
unfolding counter
counter-cells k first some x y ys =
    omega (
      arith,
      cells_more (neg x ∷ helper first 0 ∷ []) (zeros first 0 (k - 1) ++ rows k first (y ∷ ys)),
      length-cells (zeros first 0 (k - 1)) (rows k first (y ∷ ys)),
      zeros-cells first 0 (k - 1),
      rows-cells k first some y ys,
    )

-- the length of what is written
pub needed_is : (k first : ℕ) (ls : List ℕ) → length (cells (at_most k first ls)) ≡ needed k (length ls)
unfolding at_most needed
needed_is k first ls = split (same? k 0)
    (λ e. rw (eq-eqb k 0 e, at_most, needed) (negations-cells ls))
    (λ ne. split (less? k (length ls))
    (λ l. rw (ne_eqb k 0 ne, lt-ltb k (length ls) l, at_most, needed) (long ls (omega (arith, ne)) l))
    (λ l. rw (ne_eqb k 0 ne, le-ltb k (length ls) l, at_most, needed) cells_none))
  where
    fewer : (n : ℕ) → n ≡ suc (suc n) - 2
    fewer n = omega arith

    long : (ls : List ℕ) → 1 ≤ k → k < length ls → length (cells (counter k first ls)) ≡ 8 + 3 * (k - 1) + (length ls - 2) * (9 * k + 3)
    long [] s l = absurd (omega arith)
    long (x ∷ []) s l = absurd (omega arith)
    long (x ∷ y ∷ ys) s l = counter-cells k first s x y ys ∙ ap (λ (n : ℕ). 8 + 3 * (k - 1) + n * (9 * k + 3)) (fewer (length ys))

pub len_is : (k first : ℕ) (ls : List ℕ) → length ls ≤ max_count → length (cells (at_most k first ls)) ≡ len_of (length ls) k
unfolding len_of
len_is k first ls h = needed_is k first ls ∙ sym (rw (le-leb (length ls) max_count h, len_of))
