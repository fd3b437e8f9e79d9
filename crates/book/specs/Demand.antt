-- What it takes to show demand 3: a few facts of each answer. The other sentences follow from them.
use Rattle.std.specs.Prelude.{◌≡◌, refl, ◌≢◌, ◌⊎◌, ◌↔◌, Bool, ◌&&◌, List, [], ◌∷◌, ◌++◌, ℕ, zero, suc, ◌+◌, ◌*◌, ◌≤◌, ◌<◌, length, get_or, leb, eqb}
use Rattle.std.proofs.Common.{sym, ap, ◌∙◌, inl, inr, arith, not-suc-le-zero, eqb→eq, ltb→lt}
use Rattle.std.proofs.Math.Path.{subst}
use Rattle.std.proofs.Math.Dec.{T, eqb_refl}
use Rattle.model.specs.Lit.{var, sign, neg}
use Rattle.model.specs.Script.{header, records_of}
use Rattle.model.specs.Book.{all, any, has, holds, in_range_of, is_row, is_model, is_common, Common, Follows, NoModel, same_literals, has_clause, same_clauses, book_of, SolveEntry, Entry, at_clause, at_solve, history, cells_of, TRUE, FALSE, UNDEF, causes, is_cause, SolveIn, Answers, SameVerdict, Demand3}
use Rattle.lawbase.specs.Basics.{◌∈◌, Every, split, same?}
use Rattle.book.specs.Booleans.{both, and, all_every, every_all, any_some, some_any, has_in, holds_eq, eq_holds, not_both}

-- a clause and its answer, after the clauses
pub record FairClause (v : ℕ) (clauses : List (List ℕ)) (c : List ℕ) (answer : ℕ) : Type 0 where
  pub known : answer ≤ 2
  pub no_model : answer ≡ 0 → NoModel v (clauses ++ (c ∷ []))

-- a solve and its answer, after the clauses
pub record FairSolve (v : ℕ) (clauses : List (List ℕ)) (assumptions : List ℕ) (answer : ℕ) (body : List ℕ) : Type 0 where
  pub in_range : T (all (all (in_range_of v)) clauses && all (in_range_of v) assumptions)
  pub known : answer ≤ 2
  pub true_shows : answer ≡ TRUE → T (is_common v clauses assumptions body)
  pub final_negated : answer ≡ FALSE → T (all (λ l. has assumptions (neg l)) body)
  pub final_follows : answer ≡ FALSE → Follows v clauses body
  pub stopped_cause : answer ≡ UNDEF → T (is_cause body)

-- a record and its answer, by the book
abbrev pub Fair : ℕ → Entry → Type 0
Fair v (at_clause e) = FairClause v e.book e.clause e.answer
Fair v (at_solve e) = FairSolve v e.book e.assumptions e.answer e.body

pub record Honest (script out : List ℕ) : Type 0 where
  pub whole : cells_of (records_of script) out ≡ length out
  pub each : Every (Fair (header script).variables) (history script out)

-- the book has all the clauses taken, and no others
pub book-taken : (taken : List (List ℕ)) → book_of taken ≡ taken
unfolding book_of
book-taken taken = refl

-- ---- a cause

one_cell : (body : List ℕ) → length body ≡ 1 → body ≡ get_or body 0 0 ∷ []
one_cell [] e = absurd (omega (arith, e))
one_cell (x ∷ []) e = refl
one_cell (x ∷ y ∷ ys) e = absurd (omega (arith, e))

pub cause_in : (body : List ℕ) → T (is_cause body) → (cause : ℕ) × (cause ∈ causes) × (body ≡ cause ∷ [])
unfolding is_cause
cause_in body h =
    let b = both (eqb (length body) 1) (has causes (get_or body 0 0)) h in
    (get_or body 0 0, has_in causes (get_or body 0 0) b.1, one_cell body (eqb→eq (length body) 1 b.0))

-- ---- one solve

pub common_row : (v : ℕ) (book : List (List ℕ)) (assumptions row : List ℕ) → T (is_common v book assumptions row)
    → T (is_row v row) × T (is_model row book) × T (all (holds row) assumptions)
unfolding is_common
common_row v book assumptions row h =
    let a = both (is_row v row) (is_model row book && all (holds row) assumptions) h in
    let b = both (is_model row book) (all (holds row) assumptions) a.1 in
    (a.0, b.0, b.1)

pub row_common : (v : ℕ) (book : List (List ℕ)) (assumptions row : List ℕ) → T (is_row v row) → T (is_model row book) → T (all (holds row) assumptions)
    → T (is_common v book assumptions row)
unfolding is_common
row_common v book assumptions row a b c =
    and (is_row v row) (is_model row book && all (holds row) assumptions) a (and (is_model row book) (all (holds row) assumptions) b c)

-- a clause of negated assumptions that follows leaves no common model
pub refuted : (v : ℕ) (book : List (List ℕ)) (assumptions body : List ℕ) → Follows v book body → T (all (λ l. has assumptions (neg l)) body) → Common v book assumptions → ⊥
refuted v book assumptions body f n k =
    let row = k.0 in
    let c = common_row v book assumptions row k.1 in
    let l = any_some (holds row) body (f row c.0 c.1) in
    let i = has_in assumptions (neg l.0) (all_every (λ x. has assumptions (neg x)) body n l.0 l.1) in
    not_both row l.0 l.2 (all_every (holds row) assumptions c.2 (neg l.0) i)

module _ {v : ℕ} {book : List (List ℕ)} {assumptions : List ℕ} {answer : ℕ} {body : List ℕ} (f : FairSolve v book assumptions answer body) where
  shown : answer ≡ TRUE → Common v book assumptions
  shown e = (body, f.true_shows e)

  none : answer ≡ FALSE → Common v book assumptions → ⊥
  none e = refuted v book assumptions body (f.final_follows e) (f.final_negated e)

  verdict : answer ≢ UNDEF → (answer ≡ TRUE) ⊎ (answer ≡ FALSE)
  verdict n = split (same? answer TRUE) inl (λ m. inr (omega (arith, f.known)))

  pub exactly : answer ≢ UNDEF → (answer ≡ TRUE) ↔ Common v book assumptions
  exactly n = (shown, λ k. split (verdict n) (λ e. e) (λ e. absurd (none e k)))

  pub otherwise : answer ≢ UNDEF → (answer ≡ FALSE) ↔ ¬ Common v book assumptions
  otherwise n = (none, λ k. split (verdict n) (λ e. absurd (k (shown e))) (λ e. e))

  empty_only : answer ≡ FALSE → body ≡ [] → NoModel v book
  unfolding any
  empty_only a e row r m = subst (λ c. T (any (holds row) c)) e (f.final_follows a row r m)

pub answers : (script out : List ℕ) → Honest script out → Answers script out
answers script out h =
    record {
      whole = h.whole;
      in_range = λ e i. (h.each (at_solve e) i).in_range;
      clause_answer = λ e i. (h.each (at_clause e) i).known;
      clause_no_model = λ e i. (h.each (at_clause e) i).no_model;
      solve_answer = λ e i. (h.each (at_solve e) i).known;
      true_shows = λ e i. (h.each (at_solve e) i).true_shows;
      true_exactly_when = λ e i. exactly (h.each (at_solve e) i);
      false_otherwise = λ e i. otherwise (h.each (at_solve e) i);
      final_negated = λ e i. (h.each (at_solve e) i).final_negated;
      final_follows = λ e i. (h.each (at_solve e) i).final_follows;
      final_empty_only = λ e i. empty_only (h.each (at_solve e) i);
      stopped_cause = λ e i. (h.each (at_solve e) i).stopped_cause;
    }

-- ---- two solves

-- the row of v variables that agrees with another where both have a variable
unfoldable pub pad : ℕ → List ℕ → List ℕ
pad zero row = []
pad (suc v) [] = 0 ∷ pad v []
pad (suc v) (x ∷ row) = x ∷ pad v row

pad-length : (v : ℕ) (row : List ℕ) → length (pad v row) ≡ v
unfolding pad
pad-length zero row = refl
pad-length (suc v) [] = ap suc (pad-length v [])
pad-length (suc v) (x ∷ row) = ap suc (pad-length v row)

pad_small : (v : ℕ) (row : List ℕ) → T (all (λ x. leb x 1) row) → T (all (λ x. leb x 1) (pad v row))
unfolding pad all
pad_small zero row h = tt
pad_small (suc v) [] h = pad_small v [] tt
pad_small (suc v) (x ∷ row) h =
    let b = both (leb x 1) (all (λ y. leb y 1) row) h in
    and (leb x 1) (all (λ y. leb y 1) (pad v row)) b.0 (pad_small v row b.1)

pad_row : (v u : ℕ) (row : List ℕ) → T (is_row u row) → T (is_row v (pad v row))
unfolding is_row
pad_row v u row h =
    and (eqb (length (pad v row)) v) (all (λ x. leb x 1) (pad v row))
    (subst (λ n. T (eqb n v)) (sym (pad-length v row)) (eqb_refl v))
    (pad_small v row (both (eqb (length row) u) (all (λ x. leb x 1) row) h).1)

-- a variable that the row has, and that is below v
pad_same : (v : ℕ) (row : List ℕ) (i a : ℕ) → i < v → a < 2 → get_or row i 2 ≡ a → get_or (pad v row) i 2 ≡ a
unfolding pad
pad_same zero row i a h b e = absurd (not-suc-le-zero h)
pad_same (suc v) [] i a h b e = absurd (omega arith)
pad_same (suc v) (x ∷ row) zero a h b e = e
pad_same (suc v) (x ∷ row) (suc i) a h b e = pad_same v row i a (omega arith) b e

pad_holds : (v : ℕ) (row : List ℕ) (l : ℕ) → T (in_range_of v l) → T (holds row l) → T (holds (pad v row) l)
unfolding in_range_of
pad_holds v row l r h =
    let b : l < 2 * v = ltb→lt l (2 * v) r in
    eq_holds (pad v row) l (pad_same v row (var l) (sign l) (omega arith) (omega arith) (holds_eq row l h))

-- a common model of the one is, padded, one of the other
module _ (v u : ℕ) (book book' : List (List ℕ)) (assumptions assumptions' : List ℕ) (sb : T (same_clauses book book')) (sa : T (same_literals assumptions assumptions')) (rb : T (all (all (in_range_of v)) book')) (ra : T (all (in_range_of v) assumptions')) where
  clause_there : (c : List ℕ) → c ∈ book' → (d : List ℕ) × (d ∈ book) × Every (λ l. l ∈ c) d
  unfolding same_clauses has_clause same_literals
  clause_there c i =
      let s = both (all (has_clause book') book) (all (has_clause book) book') sb in
      let d = any_some (same_literals c) book (all_every (has_clause book) book' s.1 c i) in
      let e = both (all (has d.0) c) (all (has c) d.0) d.2 in
      (d.0, d.1, λ l j. has_in c l (all_every (has c) d.0 e.1 l j))

  clause_holds : (row : List ℕ) → T (is_model row book) → Every (λ c. T (any (holds (pad v row)) c)) book'
  unfolding is_model
  clause_holds row m c i =
      let d = clause_there c i in
      let l = any_some (holds row) d.0 (all_every (any (holds row)) book m d.0 d.1) in
      let j = d.2 l.0 l.1 in
      some_any (holds (pad v row)) j (pad_holds v row l.0 (all_every (in_range_of v) c (all_every (all (in_range_of v)) book' rb c i) l.0 j) l.2)

  assumption_holds : (row : List ℕ) → T (all (holds row) assumptions) → Every (λ l. T (holds (pad v row) l)) assumptions'
  unfolding same_literals
  assumption_holds row m l i =
      let s = both (all (has assumptions') assumptions) (all (has assumptions) assumptions') sa in
      let j = has_in assumptions l (all_every (has assumptions) assumptions' s.1 l i) in
      pad_holds v row l (all_every (in_range_of v) assumptions' ra l i) (all_every (holds row) assumptions m l j)

  pub carried : Common u book assumptions → Common v book' assumptions'
  unfolding is_model
  carried k =
      let row = k.0 in
      let c = common_row u book assumptions row k.1 in
      (pad v row, row_common v book' assumptions' (pad v row) (pad_row v u row c.0) (every_all (any (holds (pad v row))) book' (clause_holds row c.1)) (every_all (holds (pad v row)) assumptions' (assumption_holds row c.2)))

swap_same : (a b : Bool) → T (a && b) → T (b && a)
swap_same a b h =
    let k = both a b h in
    and b a k.1 k.0

clauses_sym : (a b : List (List ℕ)) → T (same_clauses a b) → T (same_clauses b a)
unfolding same_clauses
clauses_sym a b h = swap_same (all (has_clause b) a) (all (has_clause a) b) h

literals_sym : (a b : List ℕ) → T (same_literals a b) → T (same_literals b a)
unfolding same_literals
literals_sym a b h = swap_same (all (has b) a) (all (has a) b) h

-- TRUE in the one gives TRUE in the other
module _ (script out script' out' : List ℕ) (h : Answers script out) (h' : Answers script' out') where
  carries : (e e' : SolveEntry) → SolveIn script out e → SolveIn script' out' e' → e.answer ≢ UNDEF → e'.answer ≢ UNDEF
      → T (same_clauses e.book e'.book) → T (same_literals e.assumptions e'.assumptions) → e.answer ≡ TRUE → e'.answer ≡ TRUE
  carries e e' i i' n n' sb sa t =
      let v = (header script').variables in
      let r = both (all (all (in_range_of v)) e'.book) (all (in_range_of v) e'.assumptions) (h'.in_range e' i') in
      (h'.true_exactly_when e' i' n').1
      (carried v (header script).variables e.book e'.book e.assumptions e'.assumptions sb sa r.0 r.1 ((h.true_exactly_when e i n).0 t))

pub agree : (script out script' out' : List ℕ) → Answers script out → Answers script' out' → SameVerdict script out script' out'
agree script out script' out' h h' e e' i i' n n' sb sa =
    split (same? e.answer TRUE)
    (λ t. t ∙ sym (carries script out script' out' h h' e e' i i' n n' sb sa t))
    (λ m. split (same? e'.answer TRUE)
    (λ t. absurd (m (carries script' out' script out h' h e' e i' i n' n (clauses_sym e.book e'.book sb) (literals_sym e.assumptions e'.assumptions sa) t)))
    (λ m'. omega (arith, h.solve_answer e i, h'.solve_answer e' i')))

pub demand : (script out : List ℕ) → Honest script out → Demand3 script out
demand script out h =
    let a = answers script out h in
    record { answers = a; one_script = agree script out script out a a; two_scripts = λ script' out' a'. agree script out script' out' a a' }
