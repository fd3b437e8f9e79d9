-- The marks made so far, noted so that they can be taken back, newest first.
use Rattle.std.specs.Prelude.{ℕ, zero, suc, ◌+◌, ◌-◌, ◌≤◌, ◌<◌, ◌≡◌, refl, ◌⊎◌, true, List, [], ◌∷◌, ◌++◌, length, get_or, set, take, drop, replicate}
use Rattle.std.proofs.Common.{arith, ap, ap₂, sym, ◌∙◌, inl, inr, length-set, get_or-set_same, get_or-set_other, set-set, ext_get_or, eqb-true, take_all, length-append}
use mathlib.Core.List.Memᴰ.{head as here}
use mathlib.Core.List.Memᴰ.{not-nil}
use mathlib.Core.List.Memᴰ.{tail as there}
use Rattle.std.proofs.lemmas.List.{length-replicate, get_or-replicate, set-get_or, drop-append-le, take-append-le, drop_all}
use Rattle.std.proofs.Math.ListN.{get_or-eq_default, get_or-append}
use Rattle.std.proofs.Math.Seq.{set_out, get_or-append_seam, get_or-append_right}
use Rattle.std.proofs.lemmas.Bool.{eqb-false}
use Rattle.model.specs.Lit.{var}
use Rattle.model.specs.Minimise.{is_seen}
use Rattle.trail.specs.View.{LitsOf}
use Rattle.scratch.specs.Row.{Row}
use Rattle.lawbase.specs.Basics.{◌∈◌, Every, split, same?, on?, less?}
use Rattle.lawbase.specs.WellFormed.{Distinct}
use Rattle.learning.specs.Marks.{seen_at, MarksOf, unseen}
use Rattle.learning.proofs.Marks.{unseen-mark, unseen_most, mark_other, clear_same}

-- the marks m when those of the notes are taken back, the last note first
unfoldable pub undo : List ℕ → List ℕ → List ℕ
undo [] m = m
undo (q ∷ ns) m = set (undo ns m) (var q) 0

pub undo-length : (ns m : List ℕ) → length (undo ns m) ≡ length m
unfolding undo
undo-length [] m = refl
undo-length (q ∷ ns) m = length-set (undo ns m) (var q) 0 ∙ undo-length ns m

pub undo-append : (ns us m : List ℕ) → undo (ns ++ us) m ≡ undo ns (undo us m)
unfolding undo
undo-append [] us m = refl
undo-append (q ∷ ns) us m = ap (λ (k : List ℕ). set k (var q) 0) (undo-append ns us m)

pub undo_last : (ns : List ℕ) (q : ℕ) (m : List ℕ) → undo (ns ++ (q ∷ [])) m ≡ undo ns (set m (var q) 0)
unfolding undo
undo_last ns q m = undo-append ns (q ∷ []) m

pub undo_none : (m : List ℕ) → undo [] m ≡ m
unfolding undo
undo_none m = refl

-- ---- literals of the variables

pub lits_append : (n : ℕ) (ps qs : List ℕ) → LitsOf n ps → LitsOf n qs → LitsOf n (ps ++ qs)
lits_append n ps qs f g i h = split (less? i (length ps))
    (λ b. rw (get_or-append ps qs 0 i b) (f i b))
    (λ b. rw (get_or-append_right ps qs i 0 b) (g (i - length ps) (omega (arith, length-append ps qs))))

pub lits_one : (n q : ℕ) → var q < n → LitsOf n (q ∷ [])
lits_one n q h zero b = h
lits_one n q h (suc i) b = absurd (omega arith)

module _ (n : ℕ) (ps : List ℕ) (q : ℕ) (f : LitsOf n (ps ++ (q ∷ []))) where
  pub lits_front : LitsOf n ps
  lits_front i b = rw (get_or-append ps (q ∷ []) 0 i b) at (f i (omega (arith, length-append ps (q ∷ []))))

  pub lits_last : var q < n
  lits_last =
      let l : length (ps ++ (q ∷ [])) ≡ length ps + 1 = length-append ps (q ∷ []) in
      rw (get_or-append_seam ps q [] 0) at (f (length ps) (omega (arith, l)))

-- ---- marks that can be taken back

-- the marks m0 became m, and the notes say by which
pub record Made (m0 ns m : List ℕ) : Type 0 where
  pub range : LitsOf (length m) ns
  pub back : undo ns m ≡ m0

pub made_none : (m : List ℕ) → Made m [] m
made_none m = record { range = λ i h. absurd (omega arith); back = undo_none m }

pub made_more : (m0 ns m : List ℕ) (l : ℕ) → var l < length m → get_or m (var l) 0 ≡ 0 → Made m0 ns m → Made m0 (ns ++ (l ∷ [])) (set m (var l) 1)
made_more m0 ns m l v z r =
    record {
      range = rw (length-set m (var l) 1) (lits_append (length m) ns (l ∷ []) r.range (lits_one (length m) l v));
      back = undo_last ns l (set m (var l) 1) ∙ ap (undo ns) cleared ∙ r.back;
    }
  where
    cleared : set (set m (var l) 1) (var l) 0 ≡ m
    cleared = set-set m (var l) 1 0 ∙ ap (λ (x : ℕ). set m (var l) x) (sym z) ∙ set-get_or m (var l) 0

pub made_then : (m0 ns m us k : List ℕ) → length k ≡ length m → Made m0 ns m → Made m us k → Made m0 (ns ++ us) k
made_then m0 ns m us k s a b =
    record {
      range = lits_append (length k) ns us (rw s a.range) b.range;
      back = undo-append ns us k ∙ ap (undo ns) b.back ∙ a.back;
    }

-- ---- taking marks back

-- there are n notes or more, and those behind are of the variables
pub record Noted (m : List ℕ) (r : Row) (n : ℕ) : Type 0 where
  pub low : n ≤ length r.items
  pub range : LitsOf (length m) (drop n r.items)

-- the marks of the notes behind the first n are taken back, and these notes are gone
pub record Undone (m m' : List ℕ) (r r' : Row) (n : ℕ) : Type 0 where
  pub marks : m' ≡ undo (drop n r.items) m
  pub notes : r' ≡ record { items = take n r.items; cells = r.cells }

-- those of the notes that are left are still to be taken back
pub record Undoing (m m' : List ℕ) (r r' : Row) (n : ℕ) : Type 0 where
  pub noted : Noted m' r' n
  pub rest : undo (drop n r.items) m ≡ undo (drop n r'.items) m'
  pub first : take n r'.items ≡ take n r.items
  pub cells : r'.cells ≡ r.cells

module _ {m m' : List ℕ} {r r' : Row} {n : ℕ} (g : Undoing m m' r r' n) where
  module _ (u : Row) (q : ℕ) (b : n < length r'.items) (e : r'.items ≡ u.items ++ (q ∷ [])) where
    longer : length r'.items ≡ length u.items + 1
    longer = ap (λ (xs : List ℕ). length xs) e ∙ length-append u.items (q ∷ [])

    dropped : drop n r'.items ≡ drop n u.items ++ (q ∷ [])
    dropped = ap (drop n) e ∙ drop-append-le n u.items (q ∷ []) (omega (arith, longer))

    lits : LitsOf (length m') (drop n u.items ++ (q ∷ []))
    lits = rw dropped at g.noted.range

    pub undoing_var : var q < length m'
    undoing_var = lits_last (length m') (drop n u.items) q lits

    pub undoing_turn : u.cells ≡ r'.cells → Undoing m (set m' (var q) 0) r u n
    undoing_turn c =
        record {
          noted = record { low = omega (arith, longer); range = rw (length-set m' (var q) 0) (lits_front (length m') (drop n u.items) q lits) };
          rest = g.rest ∙ ap (λ (xs : List ℕ). undo xs m') dropped ∙ undo_last (drop n u.items) q m';
          first = sym (ap (take n) e ∙ take-append-le n u.items (q ∷ []) (omega (arith, longer))) ∙ g.first;
          cells = c ∙ g.cells;
        }

  pub undoing_end : length r'.items ≤ n → Undone m m' r r' n
  undoing_end b =
      record {
        marks = sym (g.rest ∙ ap (λ (xs : List ℕ). undo xs m') (drop_all n r'.items b) ∙ undo_none m');
        notes = ap₂ (λ (i c : List ℕ). record { items = i; cells = c }) (sym (take_all n r'.items b) ∙ g.first) g.cells;
      }

-- ---- the marks of a clause, noted in its order

zero-set : (m : List ℕ) (v : ℕ) → get_or (set m v 0) v 0 ≡ 0
zero-set m v = split (less? v (length m))
    (λ h. get_or-set_same m v 0 0 h)
    (λ h. rw (set_out m v 0 h) (get_or-eq_default m 0 {n = v} h))

-- what is 0 stays 0, and what is noted becomes 0
undo-zero : (ns m : List ℕ) (v : ℕ) → (get_or m v 0 ≡ 0) ⊎ ((q : ℕ) × (q ∈ ns) × (var q ≡ v)) → get_or (undo ns m) v 0 ≡ 0
unfolding undo
undo-zero [] m v h = split h (λ z. z) (λ x. absurd (not-nil x.1))
undo-zero (q ∷ ns) m v h = split (same? v (var q))
    (λ e. rw e (zero-set (undo ns m) (var q)))
    (λ ne. get_or-set_other (undo ns m) (var q) v 0 0 ne ∙ undo-zero ns m v (split h inl (λ x. inr (x.0, behind ne x.1 x.2, x.2))))
  where
    behind : {u : ℕ} → (v ≡ var q → ⊥) → u ∈ (q ∷ ns) → var u ≡ v → u ∈ ns
    behind ne (here e) f = absurd (ne (sym f ∙ ap var e))
    behind ne (there i) f = i

pub at_in : (ls : List ℕ) (k : ℕ) → k < length ls → get_or ls k 0 ∈ ls
at_in [] k h = absurd (omega arith)
at_in (l ∷ ls) zero h = here refl
at_in (l ∷ ls) (suc k) h = there (at_in ls k (omega arith))

pub seen_range : (m : List ℕ) (v : ℕ) → seen_at m v ≡ true → v < length m
seen_range m v h = split (less? v (length m)) (λ g. g)
    (λ g. absurd (omega (arith, eqb-true (get_or m v 0) 1 h, get_or-eq_default m 0 {n = v} g)))

unseen_clear : (m : List ℕ) (v : ℕ) → seen_at m v ≡ true → unseen (set m v 0) ≡ suc (unseen m)
unseen_clear m v h =
    let e : set (set m v 0) v 1 ≡ m = set-set m v 0 1 ∙ ap (λ (x : ℕ). set m v x) (sym (eqb-true (get_or m v 0) 1 h)) ∙ set-get_or m v 0 in
    let g : v < length (set m v 0) = rw (length-set m v 0) (seen_range m v h) in
    rw e at (unseen-mark (set m v 0) v g (clear_same m v))

-- there is a mark for each literal of a clause with no variable twice
pub clause_room : (ls m : List ℕ) → Distinct ls → Every (λ q. is_seen m q ≡ true) ls → length ls + unseen m ≤ length m
clause_room [] m d h = omega (arith, unseen_most m)
clause_room (l ∷ ls) m d h =
    let r = clause_room ls (set m (var l) 0) d.1 (λ q i. mark_other m (var l) 0 (var q) (d.0 q i) ∙ h q (there i)) in
    omega (arith, r, unseen_clear m (var l) (h l (here refl)), length-set m (var l) 0)

module _ (n : ℕ) (m ls : List ℕ) (h : MarksOf n m ls) where
  taken_back : (v : ℕ) → v < length (undo ls m) → get_or (undo ls m) v 0 ≡ get_or (replicate n 0) v 0
  taken_back v g =
      let b : v < n = omega (arith, undo-length ls m, h.sized) in
      rw (get_or-replicate {A = ℕ} n v 0 0 b)
      (undo-zero ls m v
      (split (on? (seen_at m v))
      (λ s. inr (h.only v s))
      (λ s. inl (omega (arith, h.cells v, eqb-false (get_or m v 0) 1 s)))))

  -- a clause's marks, when its literals are noted
  pub made_clause : Made (replicate n 0) ls m
  made_clause =
      record {
        range = λ k g. seen_range m (var (get_or ls k 0)) (h.all (get_or ls k 0) (at_in ls k g));
        back = ext_get_or 0 (undo ls m) (replicate n 0) (undo-length ls m ∙ h.sized ∙ sym (length-replicate {A = ℕ} n 0)) taken_back;
      }
