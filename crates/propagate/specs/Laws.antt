-- What the small functions of propagation do to the blocks.
use Rattle.std.specs.Prelude.{ℕ, ◌+◌, ◌-◌, ◌/◌, ◌≤◌, ◌<◌, ◌≡◌, ◌≢◌, ◌⊎◌, true, false, List, [], length, set, drop}
use native.Mathlib.Omega.{arith}
use Rattle.std.proofs.Common.{add-one, sym, ap, ap₂, ◌∙◌, length-set, length-drop, drop_of_length-le, set-set, get_or-set_same, get_or-set_other, eq-eqb, ne_eqb}
use Rattle.std.specs.Prelude.{Option, None as none, Some as some}
use Rattle.std.proofs.Math.Decide.{dec_le}
use Rattle.std.proofs.Math.ListN.{get_or, get_or-eq_default}
use Rattle.std.proofs.Math.Seq.{drop-cons, set-get_or}
use Rattle.model.specs.Lit.{neg, is_false}
use Rattle.model.specs.Propagate.{false_second, new_watch}
use Rattle.lawbase.specs.Basics.{split, same?}
use Rattle.store.specs.View.{Clauses, clause_of, lit_set, written}
use Rattle.store.specs.Cells.{Lies, written-set}
use Rattle.watching.specs.Look.{Found, nowhere, at_place}
use Rattle.watching.proofs.Look.{found}
use Rattle.propagate.specs.View.{put_clause, at_node, exchanged}

-- ---- literals of a clause set

-- a clause with a literal is stored
pub clause_inside : (cs : List (List ℕ)) (c i : ℕ) → i < length (get_or cs c []) → c < length cs
clause_inside cs c i h = go (dec_le (length cs) c)
  where
    go : Dec (length cs ≤ c) → c < length cs
    go (yes g) = absurd (let e = ap length (get_or-eq_default cs [] g) in omega arith)
    go (no g) = omega arith

-- the cells of l, once two of its literals are written, are those of the clause with these two
written_twice : (cells : List ℕ) (at : ℕ) (l : List ℕ) → written cells at l ≡ cells → (i a : ℕ) → i < length l → (j b : ℕ) → j < length l
    → written cells at (set (set l i a) j b) ≡ set (set cells (at + i) a) (at + j) b
written_twice cells at l e i a hi j b hj =
    written-set cells at (set l i a) j b (rw length-set hj)
    ∙ ap (λ (xs : List ℕ). set xs (at + j) b) (written-set cells at l i a hi ∙ ap (λ (xs : List ℕ). set xs (at + i) a) e)

module _ (k : Clauses) (c i a : ℕ) (h : i < length (clause_of k c)) where
  put_same : clause_of (lit_set k c i a) c ≡ set (clause_of k c) i a
  put_same = get_or-set_same k.clauses c (set (clause_of k c) i a) [] (clause_inside k.clauses c i h)

  -- one literal, and another
  pub set_twice : Lies k c → (j b : ℕ) → j < length (clause_of k c) → lit_set (lit_set k c i a) c j b ≡ put_clause k c (set (set (clause_of k c) i a) j b)
  set_twice lies j b hj =
      ap₂ (λ (cs : List (List ℕ)) (cells : List ℕ). record { clauses = cs; pushed = k.pushed; room = k.room; lit_room = k.lit_room; start_cells = k.start_cells; lit_cells = cells })
      (ap (λ (l : List ℕ). set (set k.clauses c (set (clause_of k c) i a)) c (set l j b)) put_same
      ∙ set-set k.clauses c (set (clause_of k c) i a) (set (set (clause_of k c) i a) j b))
      (sym (written_twice k.lit_cells (get_or k.start_cells c 0) (clause_of k c) lies i a h j b hj))

-- ---- the false literal second

module _ (f : ℕ) (l : List ℕ) where
  abbrev other : ℕ
  other = get_or l 0 0 + get_or l 1 0 - f

  moved : get_or l 0 0 ≡ f → false_second f l ≡ set (set l 0 other) 1 f
  unfolding false_second
  moved e =
      let q : other ≡ get_or l 1 0 = omega arith in
      rw (eq-eqb (get_or l 0 0) f e, false_second, q)

  stays : get_or l 0 0 ≢ f → get_or l 1 0 ≡ f → false_second f l ≡ set (set l 0 other) 1 f
  unfolding false_second
  stays n e =
      let q : other ≡ get_or l 0 0 = omega arith in
      rw (ne_eqb (get_or l 0 0) f n, false_second, q, set-get_or l 0 0, ← e) (sym (set-get_or l 1 0))

  -- the two literals' sum less the false one is the other: no test needs to say which is which
  pub second_sum : (get_or l 0 0 ≡ f) ⊎ (get_or l 1 0 ≡ f) → false_second f l ≡ set (set l 0 (get_or l 0 0 + get_or l 1 0 - f)) 1 f
  second_sum o = split (same? (get_or l 0 0) f) moved (λ n. stays n (split o (λ e. absurd (n e)) (λ e. e)))

  pub first_sum : 2 ≤ length l → (get_or l 0 0 ≡ f) ⊎ (get_or l 1 0 ≡ f) → get_or l 0 0 + get_or l 1 0 - f ≡ get_or (false_second f l) 0 0
  first_sum two o =
      sym (ap (λ (m : List ℕ). get_or m 0 0) (second_sum o) ∙ get_or-set_other (set l 0 other) 1 0 f 0 (omega arith) ∙ get_or-set_same l 0 other 0 (omega arith))

-- ---- the search for a new watch

module _ (values l : List ℕ) (k : ℕ) where
  pub search_here : k < length l → is_false values (get_or l k 0) ≡ false → new_watch values k (drop k l) ≡ some k
  unfolding new_watch
  search_here h e = rw (drop-cons l k 0 h, e, new_watch)

  pub search_next : k < length l → is_false values (get_or l k 0) ≡ true → new_watch values k (drop k l) ≡ new_watch values (k + 1) (drop (k + 1) l)
  unfolding new_watch
  search_next h e = rw (add-one, drop-cons l k 0 h, e, new_watch)

  pub search_end : length l ≤ k → new_watch values k (drop k l) ≡ none
  unfolding new_watch
  search_end h = rw (drop_of_length-le l h)

-- a place that is found is 2 or more
pub place_two : (values l : List ℕ) (k : ℕ) → new_watch values 2 (drop 2 l) ≡ some k → 2 ≤ k
place_two values l k e = go (new_watch values 2 (drop 2 l)) (found values 2 (drop 2 l)) e
  where
    go : (o : Option ℕ) → Found values 2 (drop 2 l) o → o ≡ some k → 2 ≤ k
    go o (nowhere h) q = absurd (let z : ◌≡◌ {A = ℕ} 0 1 = cc in omega arith)
    go o (at_place i j g h n) q = let z : i ≡ k = cc in omega arith

pub place_inside : (values l : List ℕ) (k : ℕ) → new_watch values 2 (drop 2 l) ≡ some k → k < length l
place_inside values l k e = go (new_watch values 2 (drop 2 l)) (found values 2 (drop 2 l)) e
  where
    go : (o : Option ℕ) → Found values 2 (drop 2 l) o → o ≡ some k → k < length l
    go o (nowhere h) q = absurd (let z : ◌≡◌ {A = ℕ} 0 1 = cc in omega arith)
    go o (at_place i j g h n) q = let z : i ≡ k = cc in omega (arith, length-drop 2 l)

-- ---- a watch that goes

pub exchange : (k : Clauses) (m p i l f : ℕ) → Lies k (m / 2) → i < length (at_node k m) → 2 ≤ length (at_node k m) → l ≡ get_or (at_node k m) i 0 → f ≡ neg p
    → lit_set (lit_set k (m / 2) 1 l) (m / 2) i f ≡ exchanged k m p i
exchange k m p i l f lies inside two el ef =
    set_twice k (m / 2) 1 l (omega arith) lies i f inside
    ∙ ap₂ (λ a b. put_clause k (m / 2) (set (set (at_node k m) 1 a) i b)) el ef
