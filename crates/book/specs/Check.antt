-- Demand 3 by computation: a test over all rows, which shows the demand where it passes. It is for scripts of few variables.
use Rattle.std.specs.Prelude.{◌≡◌, refl, Bool, true, false, not, ◌&&◌, ◌||◌, List, [], ◌∷◌, ◌++◌, map, ℕ, zero, suc, ◌+◌, length, T, leb, eqb}
use Rattle.std.proofs.Common.{subst, ◌∙◌, leb→le}
use mathlib.Core.List.Memᴰ.{append_left as in_left}
use mathlib.Core.List.Memᴰ.{append_right as in_right}
use mathlib.Core.List.Memᴰ.{head as here}
use mathlib.Core.List.Memᴰ.{map as in_map}
use Rattle.std.proofs.Math.Dec.{eqb→eq, eqb_refl, eqb-zero-suc, eqb-suc-zero, eqb-suc-suc, leb-suc-suc, leb-suc-zero}
use Rattle.model.specs.Lit.{neg}
use Rattle.model.specs.Script.{header, records_of}
use Rattle.model.specs.Book.{all, any, has, holds, in_range_of, is_row, is_model, is_common, Follows, NoModel, Entry, at_clause, at_solve, history, cells_of, TRUE, FALSE, UNDEF, is_cause, Demand3}
use Rattle.lawbase.specs.Basics.{◌∈◌}
use Rattle.book.specs.Booleans.{both, and, all_every}
use Rattle.book.specs.Demand.{FairClause, FairSolve, Fair, Honest, demand}

-- all rows of v variables
unfoldable pub rows : ℕ → List (List ℕ)
rows zero = [] ∷ []
rows (suc v) = map (λ row. 0 ∷ row) (rows v) ++ map (λ row. 1 ∷ row) (rows v)

row_tail : (v x : ℕ) (row : List ℕ) → T (is_row (suc v) (x ∷ row)) → T (leb x 1) × T (is_row v row)
unfolding is_row all
row_tail v x row h =
    let a = both (eqb (suc (length row)) (suc v)) (leb x 1 && all (λ y. leb y 1) row) h in
    let b = both (leb x 1) (all (λ y. leb y 1) row) a.1 in
    (b.0, and (eqb (length row) v) (all (λ y. leb y 1) row) (subst T (eqb-suc-suc (length row) v) a.0) b.1)

pub rows_all : (v : ℕ) (row : List ℕ) → T (is_row v row) → row ∈ rows v
unfolding rows is_row
rows_all zero [] h = here refl
rows_all zero (x ∷ row) h = absurd (subst T (eqb-suc-zero (length row)) (both (eqb (suc (length row)) 0) (all (λ y. leb y 1) (x ∷ row)) h).0)
rows_all (suc v) [] h = absurd (subst T (eqb-zero-suc v) (both (eqb 0 (suc v)) (all (λ y. leb y 1) []) h).0)
rows_all (suc v) (zero ∷ row) h = in_left _ (in_map (λ r. 0 ∷ r) (rows_all v row (row_tail v 0 row h).1))
rows_all (suc v) (suc zero ∷ row) h = in_right (map (λ r. 0 ∷ r) (rows v)) (in_map (λ r. 1 ∷ r) (rows_all v row (row_tail v 1 row h).1))
rows_all (suc v) (suc (suc x) ∷ row) h = absurd (subst T (leb-suc-suc (suc x) 0 ∙ leb-suc-zero x) (row_tail v (suc (suc x)) row h).0)

-- ---- the tests

unfoldable pub implies : Bool → Bool → Bool
implies a b = not a || b

pub implied : (a b : Bool) → T (implies a b) → T a → T b
unfolding implies
implied true b h x = h
implied false b h x = absurd x

unfoldable pub follows? : ℕ → List (List ℕ) → List ℕ → Bool
follows? v book c = all (λ row. implies (is_model row book) (any (holds row) c)) (rows v)

unfoldable pub no_model? : ℕ → List (List ℕ) → Bool
no_model? v book = all (λ row. implies (is_model row book) false) (rows v)

unfoldable pub clause? : ℕ → List (List ℕ) → List ℕ → ℕ → Bool
clause? v book c answer = leb answer 2 && implies (eqb answer 0) (no_model? v (book ++ (c ∷ [])))

-- the parts of a solve's test
module _ (v : ℕ) (book : List (List ℕ)) (assumptions : List ℕ) (answer : ℕ) (body : List ℕ) where
  abbrev pub in_range? : Bool
  in_range? = all (all (in_range_of v)) book && all (in_range_of v) assumptions

  abbrev pub true? : Bool
  true? = implies (eqb answer TRUE) (is_common v book assumptions body)

  abbrev pub negated? : Bool
  negated? = all (λ l. has assumptions (neg l)) body

  abbrev pub false? : Bool
  false? = implies (eqb answer FALSE) (negated? && follows? v book body)

  abbrev pub undef? : Bool
  undef? = implies (eqb answer UNDEF) (is_cause body)

  unfoldable pub solve? : Bool
  solve? = in_range? && (leb answer 2 && (true? && (false? && undef?)))

unfoldable pub entry? : ℕ → Entry → Bool
entry? v (at_clause e) = clause? v e.book e.clause e.answer
entry? v (at_solve e) = solve? v e.book e.assumptions e.answer e.body

unfoldable pub checks : List ℕ → List ℕ → Bool
checks script out = eqb (cells_of (records_of script) out) (length out) && all (entry? (header script).variables) (history script out)

-- ---- what they show

follows : (v : ℕ) (book : List (List ℕ)) (c : List ℕ) → T (follows? v book c) → Follows v book c
unfolding follows?
follows v book c h row r m =
    implied (is_model row book) (any (holds row) c) (all_every (λ x. implies (is_model x book) (any (holds x) c)) (rows v) h row (rows_all v row r)) m

no_model : (v : ℕ) (book : List (List ℕ)) → T (no_model? v book) → NoModel v book
unfolding no_model?
no_model v book h row r m = implied (is_model row book) false (all_every (λ x. implies (is_model x book) false) (rows v) h row (rows_all v row r)) m

when : (a n : ℕ) (b : Bool) → T (implies (eqb a n) b) → a ≡ n → T b
when a n b h e = implied (eqb a n) b h (subst (λ x. T (eqb a x)) e (eqb_refl a))

fair_clause : (v : ℕ) (book : List (List ℕ)) (c : List ℕ) (answer : ℕ) → T (clause? v book c answer) → FairClause v book c answer
unfolding clause?
fair_clause v book c answer h =
    let none = no_model? v (book ++ (c ∷ [])) in
    let a = both (leb answer 2) (implies (eqb answer 0) none) h in
    record { known = leb→le answer 2 a.0; no_model = λ e. no_model v (book ++ (c ∷ [])) (when answer 0 none a.1 e) }

fair_solve : (v : ℕ) (book : List (List ℕ)) (assumptions : List ℕ) (answer : ℕ) (body : List ℕ) → T (solve? v book assumptions answer body)
    → FairSolve v book assumptions answer body
unfolding solve?
fair_solve v book assumptions answer body h =
    let t = true? v book assumptions answer body in
    let f = false? v book assumptions answer body in
    let u = undef? v book assumptions answer body in
    let n = negated? v book assumptions answer body in
    let a = both (in_range? v book assumptions answer body) (leb answer 2 && (t && (f && u))) h in
    let b = both (leb answer 2) (t && (f && u)) a.1 in
    let c = both t (f && u) b.1 in
    let d = both f u c.1 in
    record {
      in_range = a.0;
      known = leb→le answer 2 b.0;
      true_shows = when answer TRUE (is_common v book assumptions body) c.0;
      final_negated = λ e. (both n (follows? v book body) (when answer FALSE (n && follows? v book body) d.0 e)).0;
      final_follows = λ e. follows v book body (both n (follows? v book body) (when answer FALSE (n && follows? v book body) d.0 e)).1;
      stopped_cause = when answer UNDEF (is_cause body) d.1;
    }

fair : (v : ℕ) (e : Entry) → T (entry? v e) → Fair v e
unfolding entry?
fair v (at_clause e) h = fair_clause v e.book e.clause e.answer h
fair v (at_solve e) h = fair_solve v e.book e.assumptions e.answer e.body h

module _ (script out : List ℕ) (h : T (checks script out)) where
  abbrev v : ℕ
  v = (header script).variables

  pub honest : Honest script out
  unfolding checks
  honest =
      let p = both (eqb (cells_of (records_of script) out) (length out)) (all (entry? v) (history script out)) h in
      record {
        whole = eqb→eq (cells_of (records_of script) out) (length out) p.0;
        each = λ e i. fair v e (all_every (entry? v) (history script out) p.1 e i);
      }

  pub shows : Demand3 script out
  shows = demand script out honest
