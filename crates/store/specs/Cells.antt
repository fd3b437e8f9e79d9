-- Every cell of the slices shows, and what several stores do to the literals' cells.
use Rattle.std.specs.Prelude.{ℕ, zero, suc, ◌+◌, ◌-◌, ◌≤◌, ◌<◌, ◌≡◌, refl, List, [], ◌∷◌, ◌++◌, length, get_or, set, take, drop}
use Rattle.std.proofs.Common.{arith, add-zero, sym, ap, ◌∙◌, length-take, set-set, get_or-take, get_or-drop}
use Rattle.std.proofs.Math.Nat.{min-le_left}
use Rattle.std.proofs.Math.Decide.{dec_le}
use Rattle.std.proofs.Math.ListN.{get_or-eq_default}
use Rattle.std.proofs.lemmas.List.{set-get_or, set_comm}
use Rattle.model.specs.Store.{stored_literals}
use Rattle.store.specs.View.{Clauses, Sound, clause_of, lit_pushed, written, put_pushed, shown}

-- two pairs of slices that show the same are the same
pub all_shown : (S L S' L' : List ℕ) (n u p n' u' p' : ℕ) → shown S L n u p ≡ shown S' L' n' u' p' → (S ≡ S') × (L ≡ L')
unfolding shown
all_shown S L S' L' n u p n' u' p' e = (ap (λ (x : Clauses). x.start_cells) e, ap (λ (x : Clauses). x.lit_cells) e)

-- ---- several literals

-- one of them is another, or there is one more
pub written-set : (cells : List ℕ) (a : ℕ) (l : List ℕ) (i p : ℕ) → i < length l → written cells a (set l i p) ≡ set (written cells a l) (a + i) p
written-set cells a [] i p h = absurd (omega arith)
written-set cells a (q ∷ l) zero p h = rw (add-zero a) (sym (set-set (written cells (a + 1) l) a q p))
written-set cells a (q ∷ l) (suc i) p h =
    let at : a + 1 + i ≡ a + suc i = omega arith in
    ap (λ (xs : List ℕ). set xs a q) (written-set cells (a + 1) l i p (omega arith) ∙ ap (λ (k : ℕ). set (written cells (a + 1) l) k p) at)
    ∙ set_comm (written cells (a + 1) l) (a + suc i) a p q (λ e. omega arith)

pub written_more : (cells : List ℕ) (a : ℕ) (l : List ℕ) (p : ℕ) → written cells a (l ++ (p ∷ [])) ≡ set (written cells a l) (a + length l) p
written_more cells a [] p = rw (add-zero a)
written_more cells a (q ∷ l) p =
    let at : a + 1 + length l ≡ a + suc (length l) = omega arith in
    ap (λ (xs : List ℕ). set xs a q) (written_more cells (a + 1) l p ∙ ap (λ (k : ℕ). set (written cells (a + 1) l) k p) at)
    ∙ set_comm (written cells (a + 1) l) (a + suc (length l)) a p q (λ e. omega arith)

-- what stood there already
written_same : (cells : List ℕ) (a : ℕ) (l : List ℕ) → ((i : ℕ) → i < length l → get_or l i 0 ≡ get_or cells (a + i) 0) → written cells a l ≡ cells
written_same cells a [] g = refl
written_same cells a (p ∷ l) g =
    let at : a + 0 ≡ a = add-zero a in
    let first : p ≡ get_or cells a 0 = g 0 (omega arith) ∙ ap (λ (k : ℕ). get_or cells k 0) at in
    ap (λ (xs : List ℕ). set xs a p) (written_same cells (a + 1) l (λ i h. let next : a + suc i ≡ a + 1 + i = omega arith in g (suc i) (omega arith) ∙ ap (λ (k : ℕ). get_or cells k 0) next))
    ∙ ap (set cells a) first
    ∙ set-get_or cells a 0

part-written : (cells : List ℕ) (a n : ℕ) → written cells a (take n (drop a cells)) ≡ cells
part-written cells a n =
    written_same cells a (take n (drop a cells))
    (λ i h.
    let b : i < n = omega (arith, length-take n (drop a cells), min-le_left n (length (drop a cells))) in
    get_or-take n (drop a cells) i 0 b ∙ get_or-drop a cells i 0)

-- clause c is what stands in the literals' cells from its start on
abbrev pub Lies : Clauses → ℕ → Type 0
Lies s c = written s.lit_cells (get_or s.start_cells c 0) (clause_of s c) ≡ s.lit_cells

pub clause_lies : (s : Clauses) → Sound s → (c : ℕ) → Lies s c
clause_lies s r c = go (dec_le (length s.clauses) c)
  where
    go : Dec (length s.clauses ≤ c) → Lies s c
    go (yes g) = ap (written s.lit_cells (get_or s.start_cells c 0)) (get_or-eq_default s.clauses [] g)
    go (no g) =
        ap (written s.lit_cells (get_or s.start_cells c 0)) (r.parts c (omega arith))
        ∙ part-written s.lit_cells (get_or s.start_cells c 0) (get_or s.start_cells (c + 1) 0 - get_or s.start_cells c 0)

-- one more literal pushed
pub put_pushed_more : (s : Clauses) (l : List ℕ) (p : ℕ) → lit_pushed (put_pushed s l) p ≡ put_pushed s (l ++ (p ∷ []))
put_pushed_more s l p =
    ap (λ (cells : List ℕ). record { clauses = s.clauses; pushed = l ++ (p ∷ []); room = s.room; lit_room = s.lit_room; start_cells = s.start_cells; lit_cells = cells })
    (sym (written_more s.lit_cells (stored_literals s.clauses) l p))
