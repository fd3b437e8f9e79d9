-- A table of Luby's terms: one computed test over the whole of it, and the rule at each entry.
use Rattle.std.specs.Prelude.{ℕ, zero, suc, ◌+◌, ◌<◌, ◌≡◌, refl, Bool, true, false, ◌&&◌, List, [], ◌∷◌, length, get_or, eqb}
use Rattle.std.proofs.Common.{arith, sym, true≢false, eqb-true}
use Rattle.model.specs.Luby.{luby}
use Rattle.luby.specs.Laws.{Term, luby_pos, luby_le}

-- how many terms stand in the table
abbrev pub count : ℕ
count = 1023

-- each entry is the loops' term, from term x on
unfoldable pub right : ℕ → List ℕ → Bool
right x [] = true
right x (t ∷ ts) = eqb t (luby x) && right (x + 1) ts

-- a table that passes the test
pub record Checked (table : List ℕ) : Type 0 where
  pub whole : length table ≡ count
  pub passes : right 0 table ≡ true

and_both : (a b : Bool) → a && b ≡ true → (a ≡ true) × (b ≡ true)
and_both true b e = (refl, e)
and_both false b e = absurd (true≢false (sym e))

right_at : (x : ℕ) (ts : List ℕ) → right x ts ≡ true → (i n : ℕ) → x + i ≡ n → i < length ts → get_or ts i 0 ≡ luby n
unfolding right
right_at x [] e i n q h = absurd (omega arith)
right_at x (t ∷ ts) e zero n q h =
    let p : x ≡ n = omega arith in
    rw p at (eqb-true t (luby x) (and_both (eqb t (luby x)) (right (x + 1) ts) e).0)
right_at x (t ∷ ts) e (suc i) n q h = right_at (x + 1) ts (and_both (eqb t (luby x)) (right (x + 1) ts) e).1 i n (omega arith) (omega arith)

-- the rule at each entry
pub entry_term : (table : List ℕ) → Checked table → (x : ℕ) → x < count → Term x (get_or table x 0)
entry_term table c x h =
    let v : get_or table x 0 ≡ luby x = right_at 0 table c.passes x x (omega arith) (omega arith) in
    record { value = v; pos = rw v (luby_pos x); small = rw v (luby_le x (omega arith)) }
