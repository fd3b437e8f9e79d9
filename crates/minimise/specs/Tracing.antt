-- What is traced: the literals on the stack and the marks, and how the literals of a reason change them.
use Rattle.std.specs.Prelude.{ℕ, suc, ◌+◌, ◌≤◌, ◌<◌, ◌≡◌, refl, ◌≢◌, Bool, not, ◌&&◌, ◌||◌, List, [], ◌∷◌, ◌++◌, reverse, length, get_or, set, drop, eqb}
use Rattle.std.proofs.Common.{arith, add-one, ap, sym, ◌∙◌, true≢false, length-set, length-append, append_assoc, drop-cons}
use Rattle.std.proofs.Math.Bool.{true, false}
use Rattle.std.specs.Prelude.{Option, None as none, Some as some, is_some}
use Rattle.std.specs.Int.Bits.{bit_and}
use Rattle.std.proofs.lemmas.List.{reverse-append, append-nil}
use borrow.Author.Tests.{ne_eqb, eqb-false, not-true}
use Rattle.model.specs.Lit.{var, no_reason, abstract_level}
use Rattle.model.specs.State.{VarState, level_lit, reason_lit}
use Rattle.model.specs.Minimise.{is_seen, Tracing, push_reason}
use Rattle.clause.specs.Cells.{reason_at}
use Rattle.scratch.specs.Row.{pushed}
use Rattle.scratch.specs.declared.Scratch.{Scratch}
use Rattle.learning.specs.Marks.{Cells, unseen}
use Rattle.learning.proofs.Marks.{cells-set, unseen-mark}
use Rattle.learning.specs.Trace.{put}
use Rattle.minimise.specs.Notes.{Made, made_none, made_more, made_then}

-- the literals on the stack, the last one first, and the marks
abbrev pub tracing : Scratch → Tracing
tracing s = record { stack = reverse s.stack.items; seen = s.marks }

-- l is marked, pushed and noted
abbrev pub put_in : Scratch → ℕ → Scratch
put_in s l = record { marks = set s.marks (var l) 1; buffer = s.buffer; stack = pushed s.stack l; notes = pushed s.notes l }

pub reverse_last : (xs : List ℕ) (q : ℕ) → reverse (xs ++ (q ∷ [])) ≡ q ∷ reverse xs
reverse_last xs q = reverse-append xs (q ∷ [])

pub tracing_put : (s : Scratch) (l : ℕ) → tracing (put_in s l) ≡ put l (tracing s)
tracing_put s l = ap (λ (y : List ℕ). record { stack = y; seen = set s.marks (var l) 1 }) (reverse_last s.stack.items l)

-- ---- room

-- l has a mark, and the stack and the notes have room for it
pub record Puttable (s : Scratch) (l : ℕ) : Type 0 where
  pub marks : var l < length s.marks
  pub stack : length s.stack.items < length s.stack.cells
  pub notes : length s.notes.items < length s.notes.cells

-- n marks of 0 and 1; the stack has a cell for each variable, and behind the notes there is one for each that has no mark
pub record Tidy (n : ℕ) (s : Scratch) : Type 0 where
  pub marks : length s.marks ≡ n
  pub cells : Cells s.marks
  pub stack : n ≤ length s.stack.cells
  pub notes : length s.notes.items + unseen s.marks ≤ length s.notes.cells

-- the literals on the stack, and the variables that have no mark and may come on it, are n at most
abbrev pub Stacked : ℕ → Scratch → Type 0
Stacked n s = length s.stack.items + unseen s.marks ≤ n

-- a became b by marks that are noted
pub record Going (n : ℕ) (a b : Scratch) : Type 0 where
  pub tidy : Tidy n b
  pub stack : length b.stack.cells ≡ length a.stack.cells
  pub notes : length b.notes.cells ≡ length a.notes.cells
  pub new : List ℕ
  pub noted : b.notes.items ≡ a.notes.items ++ new
  pub made : Made a.marks new b.marks

pub going_start : (n : ℕ) (a : Scratch) → Tidy n a → Going n a a
going_start n a h = record { tidy = h; stack = refl; notes = refl; new = []; noted = sym (append-nil a.notes.items); made = made_none a.marks }

module _ (n : ℕ) (s : Scratch) (l : ℕ) (h : Tidy n s) (k : Stacked n s) (v : var l < n) (e : is_seen s.marks l ≡ false) where
  less : unseen s.marks ≡ suc (unseen (set s.marks (var l) 1))
  less = unseen-mark s.marks (var l) (omega (arith, h.marks)) e

  pub tidy_room : Puttable s l
  tidy_room = record { marks = omega (arith, h.marks); stack = omega (arith, less, h.stack); notes = omega (arith, less, h.notes) }

  pub tidy_put : Tidy n (put_in s l)
  tidy_put =
      record {
        marks = length-set s.marks (var l) 1 ∙ h.marks;
        cells = cells-set s.marks (var l) 1 (omega arith) h.cells;
        stack = omega (arith, h.stack, length-set s.stack.cells (length s.stack.items) l);
        notes = omega (arith, less, h.notes, length-append s.notes.items (l ∷ []), length-set s.notes.cells (length s.notes.items) l);
      }

  pub stacked_put : Stacked n (put_in s l)
  stacked_put = omega (arith, less, length-append s.stack.items (l ∷ []))

  pub going_put : (a : Scratch) → Going n a s → Going n a (put_in s l)
  going_put a g =
      record {
        tidy = tidy_put;
        stack = length-set s.stack.cells (length s.stack.items) l ∙ g.stack;
        notes = length-set s.notes.cells (length s.notes.items) l ∙ g.notes;
        new = g.new ++ (l ∷ []);
        noted = ap (λ (xs : List ℕ). xs ++ (l ∷ [])) g.noted ∙ append_assoc a.notes.items g.new (l ∷ []);
        made = made_more a.marks g.new s.marks l (omega (arith, h.marks)) (omega (arith, h.cells (var l), eqb-false (get_or s.marks (var l) 0) 1 e)) g.made;
      }

pub going_then : {n : ℕ} {a b c : Scratch} → Going n a b → Going n b c → Going n a c
going_then {n} {a} {b} {c} g k =
    record {
      tidy = k.tidy;
      stack = k.stack ∙ g.stack;
      notes = k.notes ∙ g.notes;
      new = g.new ++ k.new;
      noted = k.noted ∙ ap (λ (xs : List ℕ). xs ++ k.new) g.noted ∙ append_assoc a.notes.items g.new k.new;
      made = made_then a.marks g.new b.marks k.new c.marks (k.tidy.marks ∙ sym g.tidy.marks) g.made k.made;
    }

-- ---- the literals of a reason, one by one

-- whether a literal can be marked and pushed
abbrev pub traceable : VarState → ℕ → ℕ → Bool
traceable vs mask l = not (eqb (reason_lit vs l) no_reason) && not (eqb (bit_and (abstract_level (level_lit vs l)) mask) 0)

-- whether a literal is neither at level 0 nor marked
abbrev pub open_lit : VarState → List ℕ → ℕ → Bool
open_lit vs m l = not (eqb (level_lit vs l) 0) && not (is_seen m l)

and_split : (a b : Bool) → a && b ≡ true → (a ≡ true) × (b ≡ true)
and_split true b h = (refl, h)
and_split false b h = (h, absurd (true≢false (sym h)))

-- an open literal is above level 0, and not marked
pub open_parts : (vs : VarState) (m : List ℕ) (l : ℕ) → open_lit vs m l ≡ true → (level_lit vs l ≢ 0) × (is_seen m l ≡ false)
open_parts vs m l o =
    let e = and_split (not (eqb (level_lit vs l) 0)) (not (is_seen m l)) o in
    (eqb-false (level_lit vs l) 0 (not-true (eqb (level_lit vs l) 0) e.0), not-true (is_seen m l) e.1)

-- the test of the definition
closed_test : (a b : Bool) → not a && not b ≡ false → a || b ≡ true
closed_test true b h = refl
closed_test false true h = refl
closed_test false false h = sym h

module _ (vs : VarState) (mask : ℕ) (part : List ℕ) (i : ℕ) (h : i < length part) (a : Tracing) {l : ℕ} (e : l ≡ get_or part i 0) where
  here_first : drop i part ≡ l ∷ drop (i + 1) part
  here_first = rw (e, add-one) (drop-cons part i 0 h)

  pub step_pass : open_lit vs a.seen l ≡ false → push_reason vs mask (drop i part) a ≡ push_reason vs mask (drop (i + 1) part) a
  unfolding push_reason
  step_pass o = rw (here_first, closed_test (eqb (level_lit vs l) 0) (is_seen a.seen l) o, push_reason)

  module _ (o : open_lit vs a.seen l ≡ true) where
    pub step_put : traceable vs mask l ≡ true → push_reason vs mask (drop i part) a ≡ push_reason vs mask (drop (i + 1) part) (put l a)
    unfolding push_reason
    step_put t = let p = open_parts vs a.seen l o in rw (here_first, ne_eqb (level_lit vs l) 0 p.0, p.1, t, push_reason)

    pub step_stop : traceable vs mask l ≡ false → push_reason vs mask (drop i part) a ≡ none
    unfolding push_reason
    step_stop t = let p = open_parts vs a.seen l o in rw (here_first, ne_eqb (level_lit vs l) 0 p.0, p.1, t, push_reason)

pub step_end : (vs : VarState) (mask : ℕ) (a : Tracing) → push_reason vs mask [] a ≡ some a
unfolding push_reason
step_end vs mask a = refl

-- some a, or none
abbrev pub outcome : {A : Type 0} → Bool → A → Option A
outcome true a = some a
outcome false a = none

-- ---- a reason's cell

-- whether there is a reason
pub reason_test : (r : ℕ) → is_some (reason_at r) ≡ not (eqb r no_reason)
reason_test r = by (eqb r no_reason)
  where
    by : (t : Bool) → is_some (elim t as (λ _. Option ℕ) [ true ↦ none | false ↦ some r ]) ≡ not t
    by true = refl
    by false = refl

-- a reason's cell names a clause
pub reason_known : (r : ℕ) → r ≢ no_reason → reason_at r ≡ some r
reason_known r ne = rw (ne_eqb r no_reason ne, reason_at) refl
