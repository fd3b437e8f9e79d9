-- What the mode leaves of the clause in the buffer.
use Rattle.std.specs.Prelude.{ℕ, ◌≤◌, ◌≡◌, refl, ◌≢◌, List, [], ◌∷◌, length, get_or, drop, replicate}
use Rattle.std.proofs.Common.{arith, sym, ap, ◌∙◌}
use Rattle.model.specs.Minimise.{minimize_conflict}
use Rattle.learning.proofs.Minimise.{minimize_keeps}
use Rattle.options.specs.Numbers.{mode_number}
use Rattle.scratch.specs.declared.Scratch.{Scratch}
use Rattle.scratch.specs.View.{with_marks}
use Rattle.watch.specs.Meaning.{as_watches}
use Rattle.state.specs.declared.State.{State}
use Rattle.state.specs.Still.{state_at}
use Rattle.minimise.specs.Minimised.{Ready, Minimised}

-- with another scratch block
abbrev pub with_scratch : State → Scratch → State
with_scratch s x =
    record { config = s.config; trail = s.trail; scratch = x; watches = s.watches; clauses = s.clauses; finals = s.finals; qhead = s.qhead; ok = s.ok }

-- the lists have the room that they had
pub record Roomy (x x' : Scratch) : Type 0 where
  pub buffer : length x'.buffer.cells ≡ length x.buffer.cells
  pub stack : length x'.stack.cells ≡ length x.stack.cells
  pub notes : length x'.notes.cells ≡ length x.notes.cells

abbrev pub Reducible : State → Type 0
Reducible s = Ready s.trail s.clauses s.scratch

-- the buffer has the UIP and what the definition leaves of the others; no mark is set, and all beside the scratch block is as it was
pub record Reduced (s s' : State) : Type 0 where
  pub beside : s' ≡ with_scratch s s'.scratch
  pub roomy : Roomy s.scratch s'.scratch
  pub marks : s'.scratch.marks ≡ replicate (length s.trail.vars.values) 0
  pub most : length s'.scratch.buffer.items ≤ length s.scratch.buffer.items
  pub clause : s'.scratch.buffer.items ≡ get_or s.scratch.buffer.items 0 0
      ∷ minimize_conflict (mode_number s.config.mode) (state_at s).store s.trail.vars (drop 1 s.scratch.buffer.items) s.scratch.marks

pub head_first : (b : List ℕ) → 1 ≤ length b → b ≡ get_or b 0 0 ∷ drop 1 b
head_first [] o = absurd (omega arith)
head_first (q ∷ b) o = refl

module _ (s : State) (p : Reducible s) where
  -- mode 2
  pub reduced_by : (x : Scratch) → mode_number s.config.mode ≡ 2 → Minimised s.trail s.clauses s.scratch x → Reduced s (with_scratch s x)
  reduced_by x e m =
      record {
        beside = refl;
        roomy = record { buffer = m.buffer; stack = m.stack; notes = m.notes };
        marks = m.marks;
        most = m.most;
        clause = rw e (m.clause (as_watches s.watches));
      }

  -- the other modes keep all
  pub reduced_none : (ms : List ℕ) → mode_number s.config.mode ≢ 2 → ms ≡ replicate (length s.scratch.marks) 0 → Reduced s (with_scratch s (with_marks s.scratch ms))
  reduced_none ms ne e =
      record {
        beside = refl;
        roomy = record { buffer = refl; stack = refl; notes = refl };
        marks = e ∙ ap (λ (n : ℕ). replicate n 0) p.clause.marks.sized;
        most = omega arith;
        clause =
            head_first s.scratch.buffer.items p.some
            ∙ ap (λ (y : List ℕ). get_or s.scratch.buffer.items 0 0 ∷ y)
            (sym (minimize_keeps (mode_number s.config.mode) ne (state_at s).store s.trail.vars (drop 1 s.scratch.buffer.items) s.scratch.marks));
      }
