-- What minimising asks of the clause in the buffer, and what it leaves.
use Rattle.std.specs.Prelude.{ℕ, ◌+◌, ◌≤◌, ◌<◌, ◌≡◌, List, [], ◌∷◌, ◌++◌, length, get_or, drop, replicate}
use Rattle.std.proofs.Common.{arith, ap, sym, subst, ◌∙◌}
use Rattle.model.specs.Lit.{var, neg}
use Rattle.model.specs.State.{Watch, Store, VarState}
use Rattle.model.specs.Minimise.{abstract_levels, minimize_conflict}
use Rattle.trail.specs.View.{Assignment}
use Rattle.store.specs.View.{Clauses}
use Rattle.scratch.specs.Row.{Row}
use Rattle.scratch.specs.View.{with_notes}
use Rattle.scratch.specs.declared.Scratch.{Scratch}
use Rattle.lawbase.specs.Basics.{◌∈◌, var-neg, var_range}
use Rattle.lawbase.specs.WellFormed.{Distinct}
use Rattle.learning.proofs.Trail.{in_range, in_reverse}
use Rattle.learning.specs.Marks.{unseen}
use Rattle.learning.specs.Minimise.{Minimisable}
use Rattle.minimise.specs.Notes.{Made, made_then, made_clause, clause_room, at_in, Noted, Undone}
use Rattle.minimise.specs.Tracing.{Tidy}
use Rattle.minimise.specs.Redundant.{Filled, watched, newest}
use Rattle.minimise.specs.Dropping.{Minimising, Shrinks}

-- the UIP first in the buffer, and behind it literals that can be minimised, no variable twice; the stack and the notes have a cell for each variable
pub record Ready (a : Assignment) (c : Clauses) (s : Scratch) : Type 0 where
  pub some : 1 ≤ length s.buffer.items
  pub clause : Minimisable (length a.vars.values) (watched c []) a.vars (drop 1 s.buffer.items) s.marks
  pub distinct : Distinct (drop 1 s.buffer.items)
  pub filled : Filled c.clauses
  pub stack : length a.vars.values ≤ length s.stack.cells
  pub notes : length a.vars.values ≤ length s.notes.cells

-- the buffer has the UIP and what the definition leaves of the others, whatever the watches are; no mark is set, and the lists have the room that they had
pub record Minimised (a : Assignment) (c : Clauses) (s s' : Scratch) : Type 0 where
  pub marks : s'.marks ≡ replicate (length a.vars.values) 0
  pub most : length s'.buffer.items ≤ length s.buffer.items
  pub clause : (ws : List (List Watch)) → s'.buffer.items ≡ get_or s.buffer.items 0 0 ∷ minimize_conflict 2 (watched c ws) a.vars (drop 1 s.buffer.items) s.marks
  pub buffer : length s'.buffer.cells ≡ length s.buffer.cells
  pub stack : length s'.stack.cells ≡ length s.stack.cells
  pub notes : length s'.notes.cells ≡ length s.notes.cells

-- minimising reads no watches
pub minimisable_in : {n : ℕ} {st : Store} {vs : VarState} {ls m : List ℕ} → Minimisable n st vs ls m → (ws : List (List Watch))
    → Minimisable n (record { clauses = st.clauses; watches = ws }) vs ls m
minimisable_in h ws = record { assignment = h.assignment; falsified = h.falsified; above = h.above; marks = h.marks }

-- ---- the notes of the clause

module _ {a : Assignment} {c : Clauses} {s : Scratch} (p : Ready a c s) where
  abbrev n : ℕ
  n = length a.vars.values

  abbrev ls : List ℕ
  ls = drop 1 s.buffer.items

  of_trail : (q : ℕ) → q ∈ ls → var q < n
  of_trail q i = rw var-neg at (var_range (neg q) n (in_range n c.clauses a.vars (newest a) p.clause.assignment.entries (neg q) (in_reverse a.vars.trail (p.clause.falsified q i))))

  fits : length ls + unseen s.marks ≤ n
  fits = omega (arith, clause_room ls s.marks p.distinct p.clause.marks.all, p.clause.marks.sized)

  -- the literals behind the first are of the variables
  pub ready_var : (i : ℕ) → i < length ls → var (get_or ls i 0) < n
  ready_var i h = of_trail (get_or ls i 0) (at_in ls i h)

  pub ready_room : length ls ≤ length s.notes.cells
  ready_room = omega (arith, fits, p.notes)

  -- all are noted
  module _ {y : Row} (all : y.items ≡ ls) (same : length y.cells ≡ length s.notes.cells) where
    tidy : Tidy n (with_notes s y)
    tidy =
        record {
          marks = p.clause.marks.sized;
          cells = p.clause.marks.cells;
          stack = p.stack;
          notes = omega (arith, fits, ap (λ (xs : List ℕ). length xs) all, same, p.notes);
        }

    pub ready_minimising : Minimising a c (with_notes s y)
    ready_minimising =
        record {
          entries = p.clause.assignment.entries;
          filled = p.filled;
          some = p.some;
          lits = λ q i.
              record {
                set = in_reverse a.vars.trail (p.clause.falsified q i);
                above = p.clause.above q i;
                seen = p.clause.marks.all q i;
              };
          tidy = tidy;
        }

    module _ {mask : ℕ} (em : mask ≡ abstract_levels a.vars 0 ls) {v : Scratch} (shrunk : Shrinks a c (with_notes s y) v mask) where
      made : Made (replicate n 0) v.notes.items v.marks
      made =
          let h = shrunk.going in
          subst (λ (xs : List ℕ). Made (replicate n 0) xs v.marks) (sym (h.noted ∙ ap (λ (xs : List ℕ). xs ++ h.new) all))
          (made_then (replicate n 0) ls s.marks h.new v.marks (h.tidy.marks ∙ sym p.clause.marks.sized) (made_clause n s.marks ls p.clause.marks) h.made)

      pub ready_noted : Noted v.marks v.notes 0
      ready_noted = record { low = omega arith; range = made.range }

      pub ready_minimised : (m : List ℕ) (z : Row) → Undone v.marks m v.notes z 0 → Minimised a c s (record { marks = m; buffer = v.buffer; stack = v.stack; notes = z })
      unfolding minimize_conflict
      ready_minimised m z d =
          record {
            marks = d.marks ∙ made.back;
            most = shrunk.most;
            clause = λ ws. rw em at (shrunk.clause ws);
            buffer = shrunk.cells;
            stack = shrunk.going.stack;
            notes = ap (λ (x : Row). length x.cells) d.notes ∙ shrunk.going.notes ∙ same;
          }
