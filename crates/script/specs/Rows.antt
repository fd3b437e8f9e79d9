-- The judgement of each part of the rows, by the facts that the code tests.
use Rattle.std.specs.Prelude.{ℕ, ◌+◌, ◌*◌, ◌-◌, ◌≤◌, ◌<◌, ◌≡◌, List, [], ◌∷◌, ◌++◌, length, get_or, drop, leb, ltb, Result, Ok, Err}
use Rattle.std.proofs.Common.{sym, subst, ◌∙◌, arith, drop-cons, drop_of_length-le}
use Rattle.std.proofs.Math.Numerals.{add-one}
use Rattle.refusal.specs.declared.Refusal.{Refusal}
use Rattle.model.specs.Script.{Record, Row, row, known, most_count, trailing, literal_rows}
use Rattle.script.specs.Judging.{Judged, Same, judge-append, done, refused_first}
use Rattle.script.specs.Walk.{kind_at, literals_at, record_at, first_is, end_at, head_rows, head_is, literals_rows, last_rows, budget_rows, last_is, next_at, rows_at, rows_from, rows_step, rows_end}

-- a part that holds passes on what is behind it
pub passed_part : {A : Type 0} {t : A} (xs ys : List Row) → Judged (Ok t) xs → Same (xs ++ ys) ys
passed_part xs ys h k = judge-append xs ys k ∙ sym (h.same _)

-- ---- the rows of a kind and a count, as the code has them

module _ (v : ℕ) (s : List ℕ) (at : ℕ) (h : at < length s) where
  pub head_judged : {A : Type 0} {j : Result A Refusal} (most behind : ℕ) → most ≡ most_count (kind_at s at) v → behind ≡ trailing (kind_at s at)
      → Judged j
      (row 7 (known (kind_at s at)) at
      ∷ row 8 (leb (at + 2) (length s)) (length s)
      ∷ row 10 (leb (get_or s (at + 1) 0) most) (at + 1)
      ∷ row 8 (leb (get_or s (at + 1) 0 + behind) (length s - (at + 2))) (length s)
      ∷ [])
      → Judged j (head_rows v s at)
  head_judged {j = j} most behind p q g = subst (Judged j) (sym (head_is v s at h)) (rw (← p, ← q) g)

-- ---- literals, from the i-th on

module _ (v at : ℕ) (ls : List ℕ) where
  abbrev pub literals_from : ℕ → List Row
  literals_from i = literal_rows v (at + i) (drop i ls)

  pub literals_start : Same (literal_rows v at ls) (literals_from 0)
  literals_start k = let z : at + 0 ≡ at = omega arith in rw z

  pub literal_next : (i : ℕ) → i < length ls → literals_from i ≡ row 9 (ltb (get_or ls i 0) (2 * v)) (at + i) ∷ literals_from (i + 1)
  unfolding literal_rows
  literal_next i h =
      let here : drop i ls ≡ get_or ls i 0 ∷ drop (i + 1) ls = rw add-one (drop-cons ls i 0 h) in
      let place : at + i + 1 ≡ at + (i + 1) = omega arith in
      rw (here, place)

  pub literals_end : (i : ℕ) → length ls ≤ i → literals_from i ≡ []
  unfolding literal_rows
  literals_end i h = rw (drop_of_length-le ls h)

-- ---- the rows of a record's literals, and of what is behind them

module _ (v : ℕ) (s : List ℕ) (at : ℕ) where
  pub literals_judged : {A : Type 0} {j : Result A Refusal} (ls : List ℕ) → ls ≡ literals_at s at → Judged j (literal_rows v (at + 2) ls) → Judged j (literals_rows v s at)
  literals_judged {j = j} ls e h =
      subst (λ (f : ℕ). Judged j (literal_rows v f (literals_at s at))) (sym (first_is s at)) (subst (λ (x : List ℕ). Judged j (literal_rows v (at + 2) x)) e h)

  pub budget_judged : {A : Type 0} {j : Result A Refusal} (r : Record) (e : ℕ) → r ≡ record_at s at → e ≡ end_at s at → Judged j (budget_rows r e) → Judged j (last_rows s at)
  budget_judged {j = j} r e p q h = subst (Judged j) (sym (last_is s at)) (rw (← p, ← q) h)

-- ---- the walk over the records

module _ (v : ℕ) (s : List ℕ) (at : ℕ) where
  pub walk_stop : {A : Type 0} {e : Refusal} → at < length s → Judged {A = A} (Err e) (rows_at v s at) → Judged {A = A} (Err e) (rows_from v s at)
  walk_stop h g = rw (rows_step v s at h) (refused_first (rows_at v s at) (rows_from v s (next_at s at)) g)

  pub walk_more : {A : Type 0} {t : A} → at < length s → Judged (Ok t) (rows_at v s at) → (next : ℕ) → next ≡ next_at s at → Same (rows_from v s at) (rows_from v s next)
  walk_more h g next p k = rw (rows_step v s at h, p) (passed_part (rows_at v s at) (rows_from v s (next_at s at)) g k)

  pub walk_end : {A : Type 0} {t : A} → length s ≤ at → Judged (Ok t) (rows_from v s at)
  walk_end h = rw (rows_end v s at h) done
