-- The book's rows, which are lists, as the rows of the laws, which are functions.
use Rattle.std.specs.Prelude.{◌≡◌, refl, true, List, [], ◌∷◌, ℕ, suc, zero, ◌<◌, length, get_or, T, leb, eqb}
use mathlib.Core.List.Memᴰ.{head as here}
use Rattle.std.proofs.Common.{arith, eqb→eq, leb→le, le→leb, eqb-true, eq-eqb}
use Rattle.std.proofs.Math.Dec.{eqb_refl}
use Rattle.model.specs.Lit.{var, sign}
use Rattle.model.specs.Book.{all, any, holds, is_row, is_model}
use Rattle.lawbase.specs.Basics.{Every, shrink}
use Rattle.lawbase.specs.Sem.{Row, sat, Sat, Models}
use Rattle.book.specs.Booleans.{both, and, all_every, every_all, any_some, holds_eq, eq_holds}
use Rattle.sound.specs.Rows.{row_of}

get_or_every : (P : ℕ → Type 0) (l : List ℕ) (i d : ℕ) → P d → Every P l → P (get_or l i d)
get_or_every P [] i d h f = h
get_or_every P (x ∷ l) zero d h f = f x (here refl)
get_or_every P (x ∷ l) (suc i) d h f = get_or_every P l i d h (shrink f)

-- a cell that is there, under another default
other_default : (l : List ℕ) (i d e a : ℕ) → i < length l → get_or l i d ≡ a → get_or l i e ≡ a
other_default [] i d e a h x = absurd (omega arith)
other_default (y ∷ l) zero d e a h x = x
other_default (y ∷ l) (suc i) d e a h x = other_default l i d e a (omega arith) x

-- a cell that is not the default is there
not_default : (l : List ℕ) (i d e a : ℕ) → a < d → get_or l i d ≡ a → get_or l i e ≡ a
not_default [] i d e a h x = absurd (omega arith)
not_default (y ∷ l) zero d e a h x = x
not_default (y ∷ l) (suc i) d e a h x = not_default l i d e a h x

-- ---- rows

pub row_length : (n : ℕ) (row : List ℕ) → T (is_row n row) → length row ≡ n
unfolding is_row
row_length n row h = eqb→eq (length row) n (both (eqb (length row) n) (all (λ x. leb x 1) row) h).0

pub row_small : (n : ℕ) (row : List ℕ) → T (is_row n row) → Row (row_of row)
unfolding is_row
row_small n row h v =
    get_or_every (λ x. x < 2) row v 0 (omega arith)
    (λ x i. omega (arith, leb→le x 1 (all_every (λ y. leb y 1) row (both (eqb (length row) n) (all (λ y. leb y 1) row) h).1 x i)))

pub small_row : (n : ℕ) (row : List ℕ) → length row ≡ n → Every (λ x. x < 2) row → T (is_row n row)
unfolding is_row
small_row n row e h =
    and (eqb (length row) n) (all (λ x. leb x 1) row) (rw e (eqb_refl n)) (every_all (λ x. leb x 1) row (λ x i. le→leb x 1 (omega (arith, h x i))))

-- ---- literals

pub holds_sat : (row : List ℕ) (l : ℕ) → T (holds row l) → sat (row_of row) l ≡ true
unfolding sat
holds_sat row l h = eq-eqb (get_or row (var l) 0) (sign l) (not_default row (var l) 2 0 (sign l) (omega arith) (holds_eq row l h))

pub sat_holds : (row : List ℕ) (l : ℕ) → var l < length row → sat (row_of row) l ≡ true → T (holds row l)
unfolding sat
sat_holds row l h e = eq_holds row l (other_default row (var l) 0 2 (sign l) h (eqb-true (get_or row (var l) 0) (sign l) e))

-- ---- clauses

pub any-sat : (row C : List ℕ) → T (any (holds row) C) → Sat (row_of row) C
any-sat row C h =
    let k = any_some (holds row) C h in
    (k.0, k.1, holds_sat row k.0 k.2)

pub model_models : (row : List ℕ) (F : List (List ℕ)) → T (is_model row F) → Models (row_of row) F
unfolding is_model
model_models row F h C i = any-sat row C (all_every (any (holds row)) F h C i)
