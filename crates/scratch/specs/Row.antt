-- A list in the first cells of a slice.
use Rattle.std.specs.Prelude.{ℕ, zero, suc, ◌≤◌, ◌<◌, ◌≡◌, refl, List, [], ◌∷◌, ◌++◌, length, get_or, set, take, drop}
use Rattle.std.specs.List.{swap}
use Rattle.std.proofs.Math.Seq.{take-append_seam, paste, paste-suc, take-length}
use Rattle.std.proofs.Common.{arith, ap, ap₂, sym, ◌∙◌, get_or-take, zero-add}
use Rattle.std.proofs.lemmas.List.Edits.{swap_is}

-- the list, and every cell of the slice: those past its end too
pub record Row : Type 0 where
  pub items : List ℕ
  pub cells : List ℕ

-- the first n cells are the list
abbrev pub row : ℕ → List ℕ → Row
row n cells = record { items = take n cells; cells = cells }

-- x behind the others
abbrev pub pushed : Row → ℕ → Row
pushed r x = record { items = r.items ++ x ∷ []; cells = set r.cells (length r.items) x }

-- x in cell k, and so in place of item k, where there is one
abbrev pub put : Row → ℕ → ℕ → Row
put r k x = record { items = set r.items k x; cells = set r.cells k x }

-- items i and j in each other's place
abbrev pub exchanged : Row → ℕ → ℕ → Row
exchanged r i j = put (put r i (get_or r.items j 0)) j (get_or r.items i 0)

-- the literals of p, and no others
abbrev pub filled : Row → List ℕ → Row
filled r p = record { items = p; cells = p ++ drop (length p) r.cells }

-- what is true of every list in a slice
pub record Sound (r : Row) : Type 0 where
  pub fits : length r.items ≤ length r.cells
  pub first : r.items ≡ take (length r.items) r.cells

-- ---- the cells

-- past the first n, `set` leaves these as they are
take-set : (n : ℕ) (cells : List ℕ) (k x : ℕ) → take n (set cells k x) ≡ set (take n cells) k x
take-set zero cells k x = refl
take-set (suc n) [] k x = refl
take-set (suc n) (c ∷ cells) zero x = refl
take-set (suc n) (c ∷ cells) (suc k) x = ap (λ (xs : List ℕ). c ∷ xs) (take-set n cells k x)

pub put_shows : (n : ℕ) (cells : List ℕ) (k x : ℕ) → row n (set cells k x) ≡ put (row n cells) k x
put_shows n cells k x = ap (λ (xs : List ℕ). record { items = xs; cells = set cells k x }) (take-set n cells k x)

pub exchange_shows : (n : ℕ) (cells : List ℕ) (i j : ℕ) → n ≤ length cells → i < n → j < n → row n (swap cells i j) ≡ exchanged (row n cells) i j
exchange_shows n cells i j fits a b =
    let x = get_or cells j 0 in
    let y = get_or cells i 0 in
    rw (get_or-take n cells j 0 b, get_or-take n cells i 0 a)
    (ap (row n) (sym (swap_is cells i j 0 (omega arith) (omega arith))) ∙ put_shows n (set cells i x) j y ∙ ap (λ (r : Row). put r j y) (put_shows n cells i x))

pub filled_shows : (cells p : List ℕ) → row (length p) (p ++ drop (length p) cells) ≡ record { items = p; cells = p ++ drop (length p) cells }
filled_shows cells p = ap (λ (xs : List ℕ). record { items = xs; cells = p ++ drop (length p) cells }) (take-append_seam p (drop (length p) cells))

-- ---- a list copied to the front of a slice, cell by cell

pub front_more : (d xs : List ℕ) (i : ℕ) → i < length d → i < length xs → set (paste d 0 xs i) i (get_or xs i 0) ≡ paste d 0 xs (suc i)
front_more d xs i h g = ap (λ k. set (paste d 0 xs i) k (get_or xs i 0)) (sym (zero-add i)) ∙ paste-suc d 0 xs i 0 (omega arith) g

pub front_all : (d xs : List ℕ) → paste d 0 xs (length xs) ≡ xs ++ drop (length xs) d
front_all d xs = ap₂ (λ ys k. ys ++ drop k d) (take-length xs) (zero-add (length xs))
